use Rattle.std.proofs.Common.{◌≡◌, ◌+◌, ◌*◌, ◌%◌, List, ℕ, [], ◌∷◌, true, codes, decimal, arith, append_assoc}
use Rattle.script_generated.proofs.Names.{decimal_unescaped}
use Rattle.serde_json.specs.Data.{string}
use Rattle.serde_json.specs.Written.{members_text}
use Rattle.script_generated.specs.Texts.{members_data}
use Rattle.script_generated.proofs.text.push_step.Goals as goal
use Rattle.script_generated.specs.Generated.{generated_step}
use Rattle.json.specs.Print.{escape_byte}

-- what follows an element in the text of an update
abbrev after_element : List ℕ → List ℕ
after_element op = members_text true (members_data ((codes "key", string (codes "cart")) ∷ (codes "op", string op) ∷ []))

pub returns-in_ok-write-in-1 : goal.returns-in_ok-write-in-1
unfolding generated_step escape_byte
returns-in_ok-write-in-1 c = rw c.in-1.is c.in_ok-write-in-1.ensures.bytes

pub returns-in_ok-write-in-2 : goal.returns-in_ok-write-in-2
unfolding generated_step escape_byte
returns-in_ok-write-in-2 c =
    let k = c.args.i % 40 in
    rw (c.in-2.is, decimal_unescaped k (omega arith), append_assoc (decimal k) (34 ∷ []) (after_element (codes "add"))) c.in_ok-write-in-2.ensures.bytes

pub returns-in_ok-write-in-3 : goal.returns-in_ok-write-in-3
unfolding generated_step escape_byte
returns-in_ok-write-in-3 c = rw c.in-3.is c.in_ok-write-in-3.ensures.bytes

pub returns-in_ok-write-in-4 : goal.returns-in_ok-write-in-4
unfolding generated_step escape_byte
returns-in_ok-write-in-4 c = rw c.in-4.is c.in_ok-write-in-4.ensures.bytes

pub returns-in_ok-write-in-5 : goal.returns-in_ok-write-in-5
unfolding generated_step escape_byte
returns-in_ok-write-in-5 c =
    let k = (7 * c.args.i + 7) % 40 in
    rw (c.in-5.is, decimal_unescaped k (omega arith), append_assoc (decimal k) (34 ∷ []) (after_element (codes "remove"))) c.in_ok-write-in-5.ensures.bytes

pub returns-in_ok-write-in-6 : goal.returns-in_ok-write-in-6
unfolding generated_step escape_byte
returns-in_ok-write-in-6 c = rw c.in-6.is c.in_ok-write-in-6.ensures.bytes

pub returns-in_ok-push_str-in-7 : goal.returns-in_ok-push_str-in-7
unfolding generated_step escape_byte
returns-in_ok-push_str-in-7 c = rw c.in-7.is c.in_ok-push_str-in-7.ensures.bytes

pub returns-in_ok-write-in_default : goal.returns-in_ok-write-in_default
unfolding generated_step escape_byte
returns-in_ok-write-in_default c =
    let none : c.args.i % 8 ≡ 0 = omega arith in
    rw (none, decimal_unescaped c.args.i (omega arith), append_assoc (decimal c.args.i) (34 ∷ []) (125 ∷ [])) c.in_ok-write-in_default.ensures.bytes
