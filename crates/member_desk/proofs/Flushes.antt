-- What a flush of a member tells, once each followed key was looked at.
use Rattle.std.proofs.Common.{◌≡◌, List, [], ◌∷◌, sym, ◌∙◌, subst}
use Rattle.std.specs.List.{AllZip}
use Rattle.data_lattice.specs.declared.replica.Replica.{Ghosts}
use Rattle.member_keeper.specs.declared.keeper.Keeper.{Ghosts as Keeping}
use Rattle.member_node.specs.declared.node.Node.{Node}
use Rattle.member_desk.specs.declared.followed.Followed.{Followed}
use Rattle.member_desk.specs.declared.look.Told.{Told}
use Rattle.member_desk.specs.declared.look.Look.{Look}
use Rattle.member_desk.specs.declared.notice.Notice.{Notice}
use Rattle.member_desk.specs.Notices.{told_after}
use Rattle.member_desk.specs.Looks.{notices_by, told_by}
use Rattle.member_desk.specs.Histories.{held_at, StandsForDesk}
use Rattle.member_desk.specs.Members.{IsLook, IsToldBy}
use Rattle.member_desk.proofs.Telling.{IsFound, told_all}

zip_map : {A B : Type 0} (R S : A → B → Type 0) → ((x : A) (y : B) → R x y → S x y) → (xs : List A) (ys : List B) → AllZip R xs ys → AllZip S xs ys
zip_map R S f [] [] h = tt
zip_map R S f [] (y ∷ ys) h = absurd h
zip_map R S f (x ∷ xs) [] h = absurd h
zip_map R S f (x ∷ xs) (y ∷ ys) h = (f x y h.0, zip_map R S f xs ys h.1)

pub flushed : {T K Kind Op Delta : Type 0} {ghosts : Ghosts T Kind Op Delta} {keeping : Keeping K} (code : Node T K Kind Op Delta ghosts keeping) (old new : List (Followed Told)) (looks : List Look) (notices : List Notice)
    → AllZip (IsLook code) old looks → notices ≡ notices_by old looks → new ≡ told_by old looks → IsToldBy code old notices new
flushed {T} {K} {Kind} {Op} {Delta} {ghosts} {keeping} code old new looks notices found told after kinds logs node desk s d =
    let looked = zip_map (IsLook code) (IsFound ghosts.data_type kinds logs (held_at node)) (λ followed look h told t. h kinds logs node told s t) old looks found in
    let all = told_all ghosts.data_type kinds logs (held_at node) old looks desk looked d in
    (told ∙ all.0, subst (λ (xs : List (Followed Told)). StandsForDesk ghosts.data_type kinds logs xs (told_after (held_at node) desk)) (sym after) all.1)
