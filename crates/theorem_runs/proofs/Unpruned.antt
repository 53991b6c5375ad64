-- A log without prunes: what is taken from it has none, and a step without a tick makes none.
use Rattle.std.proofs.Common.{◌≡◌, ℕ, ◌<◌, List, take, drop, sym, ap, ◌∙◌, arith, inl, inr}
use Rattle.std.specs.Prelude.{slice_get}
use Rattle.std.proofs.lemmas.Bool.Decides.{eqb_tells}
use Rattle.model_history.specs.Texts.{Text}
use Rattle.model_history.specs.Table.{identity_limit, with_at}
use Rattle.model_history.specs.Log.{IsTakenFrom}
use Rattle.model_history.specs.History.{Record, History, at, versions, union, with_record, IsPartOf, IsExactlyPruned}
use Rattle.model_history.specs.History.Action.{Operation, Prune}
use Rattle.model_history.proofs.HistoryLaws.{with_at_same, with_at_other, has_with_record}
use Rattle.model_history.proofs.PartLaws.{take-take, in_whole, part-le, part_trans, part_union}
use Rattle.model_members.proofs.GroupLaws.{taken_with_group}
use Rattle.model_members.specs.View.{View}
use Rattle.model_members.specs.Entry.{Entry, Group, IsGroupOf, with_group}
use Rattle.theorem_runs.specs.Logs.{HasNoPrunes}
use Rattle.theorem_runs.proofs.Keeping.{AreKept, NoTick}
use Rattle.theorem_runs.proofs.Mine.{IsMine, log_grown, group_grown, mine_kept}

module _ {Op : Type 0} where
  -- what is a part of a log without prunes has none
  pub unpruned_part : (log H : History Op) → IsPartOf H log → HasNoPrunes log → HasNoPrunes H
  unpruned_part log H part plain = record { none = λ i k removed r has e. plain.none i k removed r (in_whole H log part i k r has) e }

  -- so the union of two is exactly pruned
  pub unpruned_exact : (H : History Op) → HasNoPrunes H → IsExactlyPruned H
  unpruned_exact H plain = record { once = λ i k j m x y r has has' e e'. absurd (plain.none i k r x has e); nothing_more = λ i k x r has e. absurd (plain.none i k r x has e) }

  pub unpruned_union : (log H J : History Op) → HasNoPrunes log → IsPartOf H log → IsPartOf J log → HasNoPrunes (union H J)
  unpruned_union log H J plain h j = unpruned_part log (union H J) (part_union H J log h j) plain

  pub exact_union : (log H J : History Op) → HasNoPrunes log → IsPartOf H log → IsPartOf J log → IsExactlyPruned (union H J)
  exact_union log H J plain h j = unpruned_exact (union H J) (unpruned_union log H J plain h j)

  -- one more operation
  unpruned_added : (H : History Op) (i : ℕ) (op : Op) → HasNoPrunes H → HasNoPrunes (with_record H i (record { action = Operation op; past = versions H }))
  unpruned_added H i op plain =
      record {
        none = λ j k removed r has e. elim (has_with_record H i (record { action = Operation op; past = versions H }) j k r has) [
          | inl old ↦ plain.none j k removed r old e
          | inr new ↦ absurd (let f : Operation op ≡ Prune removed = ap (λ (x : Record Op). x.action) new.2 ∙ e in cc f)
        ];
      }

  -- one log's row replaced by one without prunes
  pub unpruned_row : (log H : History Op) (i : ℕ) → HasNoPrunes log → HasNoPrunes H → HasNoPrunes (with_at log i (H i))
  unpruned_row log H i plain here =
      record {
        none = λ j k removed r has e. elim (eqb_tells j i) [
          | inl is ↦ here.none i k removed r (sym (ap (λ (xs : List (Record Op)). slice_get xs k) (ap (with_at log i (H i)) is.1 ∙ with_at_same log i (H i))) ∙ has) e
          | inr isnt ↦ plain.none j k removed r (sym (ap (λ (xs : List (Record Op)). slice_get xs k) (with_at_other log i (H i) j isnt.1)) ∙ has) e
        ];
      }

  -- GROWTH

  -- a group of a log is one of a longer log
  pub group_of_grown : (G L : History Op) → IsPartOf G L → (group : Group Op) → IsGroupOf G group → IsGroupOf L group
  group_of_grown G L grown group of_log =
      record {
        within = let a = part-le G L grown group.origin in let b = of_log.within in omega arith;
        some = of_log.some;
        these = of_log.these ∙ ap (drop group.after) (ap (take group.upto) (grown group.origin) ∙ take-take (L group.origin) group.upto (at G group.origin) of_log.within);
      }

-- A STEP WITHOUT A TICK

module _ {Op : Type 0} (logs : Text → History Op) (plain : (key : Text) → HasNoPrunes (logs key)) (i : ℕ) (small : i < identity_limit) where
  -- the member's history, and no prune in it
  pub record IsMinePlain (key : Text) (entry : Entry Op) : Type 0 where
    pub mine : IsMine (logs key) i entry.history
    pub unpruned : HasNoPrunes entry.history

  -- the log after it has no prune
  log_after : (key : Text) (entry : Entry Op) → IsMinePlain key entry → HasNoPrunes (with_at (logs key) i (entry.history i))
  log_after key entry p = unpruned_row (logs key) entry.history i (plain key) p.unpruned

  pub quiet_kept : (view : View) → AreKept IsMinePlain (λ key theirs. IsTakenFrom (logs key) theirs.history) (λ key group. IsGroupOf (logs key) group) NoTick i view
  quiet_kept view =
      let kept = mine_kept logs i view small in
      record {
        added = λ key entry op p. record { mine = kept.added key entry op p.mine; unpruned = unpruned_added entry.history i op p.unpruned };
        took = λ key mine theirs p taken. record {
          mine = kept.took key mine theirs p.mine taken;
          unpruned = unpruned_union (with_at (logs key) i (mine.history i)) mine.history theirs.history (log_after key mine p) p.mine.taken.part
              (part_trans theirs.history (logs key) (with_at (logs key) i (mine.history i)) taken.part (log_grown (logs key) i mine.history small p.mine));
        };
        grouped = λ key entry group judgement p of_log. record {
          mine = kept.grouped key entry group judgement p.mine of_log;
          unpruned = unpruned_part (with_at (logs key) i (entry.history i)) (with_group entry group).history
              (taken_with_group (with_at (logs key) i (entry.history i)) entry group p.mine.log p.mine.taken (group_grown (logs key) i entry.history small p.mine group of_log) judgement).part (log_after key entry p);
        };
        marks = λ key entry shares r never. absurd never;
        prunes = λ key entry shares r never. absurd never;
      }
