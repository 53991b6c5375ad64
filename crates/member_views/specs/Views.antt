-- Views are those of the model: a number, how many identities were given, and members by identity and place. Nothing else here names the model's.
pub use Rattle.model_members.specs.View.{Member, View, identities_of, is_member, is_taken, place_of, leader, first_view, without_member, with_joined, with_replaced}
