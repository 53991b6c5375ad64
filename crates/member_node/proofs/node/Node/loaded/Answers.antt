use Rattle.std.proofs.Common.{rules, ◌≡◌, List, Some, refl, sym, ap, ◌∙◌, subst, inl, inr, map, Option, All}
use Rattle.std.specs.Coded.{Coded-set}
use Rattle.member_node.proofs.Common.{declared_by, AreDistinctKeys, AreOfTheirKinds, AreSound, HoldsKept}
use Rattle.member_keeper.specs.declared.stored.Stored.{Stored}
use Rattle.member_keeper.specs.declared.keeper.KeeperError.{KeeperError}
use Rattle.member_keeper.specs.Tables.{Table}
use Rattle.member_keeper.specs.Calls.{JoinsRefusal, Gives}
use Rattle.member_node.specs.declared.restoring.Unfit.{Unfit}
use Rattle.member_node.specs.Loading.{IsFirstUnsound}
use Rattle.member_node.specs.Restoring.{IfDamaged}
use Rattle.member_node.proofs.Standing.{same_otherwise}
use Rattle.data_codec.proofs.Seals.{stored_once}
use Rattle.member_node.proofs.Restorings.{few_loaded, unpruned_loaded, logged_loaded, kinds_loaded, names_loaded, stands_loaded, never_unsound}
use Rattle.member_node.proofs.node.Node.loaded.Goals as goal

-- what was loaded is the table that is told
told : (o : Option Table) (loaded table : List Stored) → Gives o loaded → o ≡ Some table → loaded ≡ table
told o loaded table gives e = (subst (λ (o : Option Table). Gives o loaded) e gives).0

pub restored-requires-clause-of_kinds : goal.restored-requires-clause-of_kinds
restored-requires-clause-of_kinds g c = subst (AreOfTheirKinds g.T.Replica.kind_of) (sym c.deref.ensures.value) c.args.old.of_kinds

pub restored-requires-clause-distinct : goal.restored-requires-clause-distinct
restored-requires-clause-distinct g c = subst AreDistinctKeys (sym c.deref.ensures.value) c.args.old.distinct

pub invariant_of-result : goal.invariant_of-result
invariant_of-result g c = record {
  few_own = few_loaded g.T.Replica g.T.SpelledData c.args.id c.args.view c.in-Ok.loaded.items c.in-Ok-restored.keys.items c.in-Ok-restored.ensures.holds 0;
  unpruned = unpruned_loaded g.T.Replica g.T.SpelledData c.args.id c.args.view c.in-Ok.loaded.items c.in-Ok-restored.keys.items c.in-Ok-restored.ensures.holds;
  logged = logged_loaded g.T.Replica g.T.SpelledData c.args.id c.args.view c.in-Ok.loaded.items c.in-Ok-restored.keys.items c.in-Ok-restored.ensures.holds;
  of_kinds = kinds_loaded g.T.Replica g.T.SpelledData c.args.id c.args.view c.in-Ok.loaded.items c.in-Ok-restored.keys.items c.in-Ok-restored.ensures.holds;
  distinct = names_loaded c.in-Ok-restored.keys.items c.args.old.keys.items (c.in-Ok-restored.ensures.declared ∙ ap (map declared_by) c.deref.ensures.value) c.args.old.distinct;
  few_steps = search rules;
  few_limit = c.args.old.few_limit;
  few_operations = search rules;
}

pub returns-in-Err-Failed-clause-refused : goal.returns-in-Err-Failed-clause-refused
returns-in-Err-Failed-clause-refused g c = (
  record { same = same_otherwise (Coded-set g.row.T-Kind.coded) c.args.old _ refl refl refl refl refl refl refl; table = c.load.ensures.table; later = c.load.ensures.cause.later },
  subst (λ (e : KeeperError). JoinsRefusal (g.K.Keeper.answers c.args.old.keeper) (g.K.Keeper.answers c.load.new.self) e) c.in-Err-Failed.field-0-is c.in-Err-Failed.ensures.answers,
  c.in-Err-Failed.ensures.cause.failed c.in-Err-Failed.field-0-is,
)

pub returns-in-Err-Memory-clause-refused : goal.returns-in-Err-Memory-clause-refused
returns-in-Err-Memory-clause-refused g c = (
  record { same = same_otherwise (Coded-set g.row.T-Kind.coded) c.args.old _ refl refl refl refl refl refl refl; table = c.load.ensures.table; later = c.load.ensures.cause.later },
  inl (subst (λ (e : KeeperError). JoinsRefusal (g.K.Keeper.answers c.args.old.keeper) (g.K.Keeper.answers c.load.new.self) e) c.in-Err-Memory.field-0-is c.in-Err-Memory.ensures.answers),
)

pub returns-in-Err-Damaged-clause-refused : goal.returns-in-Err-Damaged-clause-refused
returns-in-Err-Damaged-clause-refused g c = (
  record { same = same_otherwise (Coded-set g.row.T-Kind.coded) c.args.old _ refl refl refl refl refl refl refl; table = c.load.ensures.table; later = c.load.ensures.cause.later },
  c.in-Ok.ensures.answers,
)

pub returns-clause-refused : goal.returns-clause-refused
returns-clause-refused g c = (
  record { same = same_otherwise (Coded-set g.row.T-Kind.coded) c.args.old _ refl refl refl refl refl refl refl; table = c.load.ensures.table; later = c.load.ensures.cause.later },
  inr c.in-Ok.ensures.answers,
)

pub returns-in-Ok-restored-clause-stands : goal.returns-in-Ok-restored-clause-stands
returns-in-Ok-restored-clause-stands g c = λ kinds logs table store e have_kinds histories spells.
    let R = g.T.Replica in
    let S = g.T.SpelledData in
    let once = stored_once S.is_known S.read_in S.byte_of S.spelled S.IsSound R.mentioned
    (record { takes = g.met.T.SpelledData.read_is_spelled; again = g.met.T.SpelledData.spelled_is_read; known = g.met.T.SpelledData.byte_is_known }) in
    let states = c.in-Ok-restored.keys.items in
    let same = c.in-Ok-restored.ensures.declared ∙ ap (map declared_by) c.deref.ensures.value in
    let loaded = told (g.K.Keeper.table c.args.old.keeper) c.in-Ok.loaded.items table c.in-Ok.ensures.loaded e in
    let holds : All (HoldsKept R S c.args.id c.args.view table) states = subst (λ (kept : List Stored). All (HoldsKept R S c.args.id c.args.view kept) states) loaded c.in-Ok-restored.ensures.holds in
    stands_loaded R S g.met.T.SpelledData.byte_means g.met.T.SpelledData.spelling_means once kinds logs c.args.id c.args.view table store spells c.args.old.keys.items _ c.args.old.distinct same holds histories have_kinds refl refl c.new.ensures refl

pub returns-in-Ok-restored-clause-sound : goal.returns-in-Ok-restored-clause-sound
returns-in-Ok-restored-clause-sound g c = record {
  loaded = c.in-Ok.loaded.items;
  gives = c.in-Ok.ensures.loaded;
  sound = subst (λ keys. AreSound g.T.Replica g.T.SpelledData keys c.args.id c.args.view.given c.in-Ok.loaded.items) c.deref.ensures.value c.in-Ok-restored.ensures.sound;
  holds = c.in-Ok-restored.ensures.holds;
}

pub returns-in-Err-Damaged-clause-damaged : goal.returns-in-Err-Damaged-clause-damaged
returns-in-Err-Damaged-clause-damaged g c =
    let R = g.T.Replica in
    let S = g.T.SpelledData in
    let first : IsFirstUnsound R S c.deref.result.now c.args.id c.args.view.given c.in-Ok.loaded.items c.in-Err-Damaged.key =
    subst (λ (unfit : Unfit). IfDamaged unfit (IsFirstUnsound R S c.deref.result.now c.args.id c.args.view.given c.in-Ok.loaded.items)) c.in-Err-Damaged.field-0-is c.in-Err-Damaged.ensures.unfit in
    let here : IsFirstUnsound R S c.args.old.keys.items c.args.id c.args.view.given c.in-Ok.loaded.items c.in-Err-Damaged.key =
    subst (λ keys. IsFirstUnsound R S keys c.args.id c.args.view.given c.in-Ok.loaded.items c.in-Err-Damaged.key) c.deref.ensures.value first in
    record {
      loaded = c.in-Ok.loaded.items;
      gives = c.in-Ok.ensures.loaded;
      first = rw c.in-Err-Damaged.field-0-is here;
      unfit = λ kinds logs store have_kinds spells fit.
          never_unsound R S g.met.T.SpelledData.byte_means g.met.T.SpelledData.spelling_means g.met.T.Replica.data_unmentioned c.args.id c.args.view.given c.args.old.keys.items kinds logs store have_kinds fit c.in-Ok.loaded.items c.in-Err-Damaged.key spells here;
    }
