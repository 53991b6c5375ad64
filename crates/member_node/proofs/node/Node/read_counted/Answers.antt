use Rattle.std.proofs.Common.{◌≡◌, sym, ◌∙◌, subst}
use Rattle.member_node.proofs.Common.{known, result_of, result_meant, delta_groups}
use Rattle.member_node.specs.declared.operation.OperationResult.{OperationResult}
use Rattle.member_node.specs.Counting.{open_at, is_read_of, IsAnswered}
use Rattle.member_node.proofs.Operating.{none_open, other_open, counts_nothing, counts_waits, counts_ends}
use Rattle.member_node.proofs.node.Node.read_counted.Goals as goal

pub returns-in_default : goal.returns-in_default
returns-in_default g c =
    let operations = known c.args.self.now.operations in
    let test = is_read_of c.args.key.now in
    let nothing = λ (Ends : OperationResult → Type 0). counts_nothing operations c.args.from c.args.op test Ends c.nothing.result (none_open test (open_at operations c.args.op) c.in_default.ensures) c.nothing.ensures in
    record {
      counts = nothing (λ end. Unit {0});
      image = λ digest kinds logs before node asked held kept leads declares at_key reads. nothing (λ end. result_meant end ≡ result_of (delta_groups g.T.Replica.data_type digest) node asked);
    }

pub returns-then-not-reads_key : goal.returns-then-not-reads_key
returns-then-not-reads_key g c =
    let operations = known c.args.self.now.operations in
    let test = is_read_of c.args.key.now in
    let other = other_open test (open_at operations c.args.op) c.in-Some.asked.now c.in-Some.ensures (sym c.reads_key.ensures ∙ c.if-not-reads_key.true) in
    let nothing = λ (Ends : OperationResult → Type 0). counts_nothing operations c.args.from c.args.op test Ends c.nothing-then-not-reads_key.result other c.nothing-then-not-reads_key.ensures in
    record {
      counts = nothing (λ end. Unit {0});
      image = λ digest kinds logs before node asked held kept leads declares at_key reads. nothing (λ end. result_meant end ≡ result_of (delta_groups g.T.Replica.data_type digest) node asked);
    }

pub returns-in-Some-2 : goal.returns-in-Some-2
returns-in-Some-2 g c =
    let test = is_read_of c.args.key.now in
    let answered = subst (IsAnswered c.in-Some.asked.now c.args.from) c.in-Some-2.is c.in_ok-asked.ensures in
    let waits = λ (Ends : OperationResult → Type 0). counts_waits (known c.args.self.now.operations) c.args.from c.args.op test Ends c.open.result c.in-Some.asked.now c.in-Some-2.asked c.in-Some.ensures (sym c.reads_key.ensures ∙ c.if-not-reads_key.false) answered c.open.ensures in
    record {
      counts = waits (λ end. Unit {0});
      image = λ digest kinds logs before node asked held kept leads declares at_key reads. waits (λ end. result_meant end ≡ result_of (delta_groups g.T.Replica.data_type digest) node asked);
    }

pub returns-in_ok-end-in-None : goal.returns-in_ok-end-in-None
returns-in_ok-end-in-None g c =
    let operations = known c.args.self.now.operations in
    let test = is_read_of c.args.key.now in
    let answered = subst (IsAnswered c.in-Some.asked.now c.args.from) c.in-None.is c.in_ok-asked.ensures in
    record {
      counts =
          counts_ends operations c.args.from c.args.op test (λ end. Unit {0}) c.ended.result c.in-Some.asked.now c.in_ok-end-in-None.end c.in-Some.ensures (sym c.reads_key.ensures ∙ c.if-not-reads_key.false) answered tt c.ended.ensures;
      image = λ digest kinds logs before node asked held kept leads declares at_key reads.
          counts_ends operations c.args.from c.args.op test (λ end. result_meant end ≡ result_of (delta_groups g.T.Replica.data_type digest) node asked) c.ended.result c.in-Some.asked.now c.in_ok-end-in-None.end c.in-Some.ensures (sym c.reads_key.ensures ∙ c.if-not-reads_key.false)
          answered (c.in_ok-end-in-None.ensures digest kinds logs before node asked held kept leads declares at_key reads) c.ended.ensures;
    }
