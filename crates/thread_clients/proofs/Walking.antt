-- Paths, command by command.
use Rattle.std.proofs.Common.{◌≡◌, ℕ, zero, suc, ◌+◌, ◌<◌, ◌≤◌, get_or, List, [], ◌∷◌, ◌++◌, length, take, Option, Some, slice_get, refl, sym, ap, ◌∙◌, subst, append_assoc, append-nil, arith}
use Rattle.std.specs.Prelude.{replicate}
use Rattle.std.proofs.lemmas.Option.{slice_get-get_or}
use Rattle.model_kinds.specs.declared.operation.Op.{Op}
use Rattle.data_lattice.specs.declared.replica.Replica.{Ghosts as Data}
use Rattle.member_keeper.specs.declared.keeper.Keeper.{Ghosts as Keeping}
use Rattle.member_views.specs.Views.{View}
use Rattle.world_members.specs.declared.client_line.ClientLine.{ClientLine}
use Rattle.script_reading.specs.declared.clients.Command.{Command}
use Rattle.script_reading.specs.declared.clients.Repeated.{Repeated}
use Rattle.thread_clients.specs.Commands.{commands_of}
use Rattle.thread_clients.specs.Sessions.{Session, Meaning}
use Rattle.thread_clients.specs.Answers.{HasMade}
use Rattle.thread_clients.specs.Paths.{IsPath, GoesFurther}
use Rattle.thread_clients.specs.Paths.IsPath.{nothing, further}

take_whole : {A : Type 0} (xs : List A) (k : ℕ) → length xs ≤ k → take k xs ≡ xs
take_whole [] zero le = refl
take_whole [] (suc k) le = refl
take_whole (x ∷ xs) zero le = absurd (omega arith)
take_whole (x ∷ xs) (suc k) le = ap (λ ys. x ∷ ys) (take_whole xs k (omega arith))

replicate_end : {A : Type 0} (n : ℕ) (x : A) → replicate (suc n) x ≡ replicate n x ++ x ∷ []
replicate_end zero x = refl
replicate_end (suc n) x = ap (λ ys. x ∷ ys) (replicate_end n x)

pub replicate_more : {A : Type 0} (n : ℕ) (x : A) → replicate (n + 1) x ≡ replicate n x ++ x ∷ []
replicate_more n x = let e : n + 1 ≡ suc n = omega arith in ap (λ k. replicate k x) e ∙ replicate_end n x

commands_end : (xs : List Repeated) (k : ℕ) (x : Repeated) → slice_get xs k ≡ Some x → commands_of (take (suc k) xs) ≡ commands_of (take k xs) ++ replicate x.times x.command
commands_end [] k x e = absurd cc
commands_end (y ∷ xs) zero x e =
    let same : y ≡ x = cc in
    subst (λ (w : Repeated). replicate y.times y.command ++ [] ≡ replicate w.times w.command) same (append-nil (replicate y.times y.command))
commands_end (y ∷ xs) (suc k) x e =
    ap (λ (cs : List Command). replicate y.times y.command ++ cs) (commands_end xs k x e) ∙ sym (append_assoc (replicate y.times y.command) (commands_of (take k xs)) (replicate x.times x.command))

-- the commands of one more
pub commands_more : (xs : List Repeated) (k : ℕ) (x : Repeated) → slice_get xs k ≡ Some x → commands_of (take (k + 1) xs) ≡ commands_of (take k xs) ++ replicate x.times x.command
commands_more xs k x e = let one : k + 1 ≡ suc k = omega arith in ap (λ n. commands_of (take n xs)) one ∙ commands_end xs k x e

module _ {T K Kind Delta : Type 0} {data_of : Data T Kind Op Delta} {keeping : Keeping K} (meaning : Meaning data_of keeping) (ids : ℕ → Option ℕ) (views : List View) (client : ℕ) where
  pub further_none : (a : Session data_of keeping) (lines : List ClientLine) → GoesFurther meaning ids views client [] a a lines lines
  further_none a lines = record { further = λ first earlier path. subst (λ (cs : List Command). IsPath meaning ids views client first cs lines a) (sym (append-nil earlier)) path }

  -- one command more
  pub further_one : (commands : List Command) (command : Command) (a b c : Session data_of keeping) (before lines after : List ClientLine) (line : ClientLine) → GoesFurther meaning ids views client commands a b before lines
      → HasMade meaning ids views command b c line client → after ≡ lines ++ line ∷ [] → GoesFurther meaning ids views client (commands ++ command ∷ []) a c before after
  further_one commands command a b c before lines after line goes made is = record {
    further = λ first earlier path.
        let one = further (earlier ++ commands) lines b c command line (goes.further first earlier path) made in
        subst (λ (ls : List ClientLine). IsPath meaning ids views client first (earlier ++ (commands ++ command ∷ [])) ls c) (sym is)
        (subst (λ (cs : List Command). IsPath meaning ids views client first cs (lines ++ line ∷ []) c) (append_assoc earlier commands (command ∷ [])) one);
  }

  pub further_again : (n : ℕ) (command : Command) (a b c : Session data_of keeping) (before lines after : List ClientLine) (line : ClientLine) → GoesFurther meaning ids views client (replicate n command) a b before lines
      → HasMade meaning ids views command b c line client → after ≡ lines ++ line ∷ [] → GoesFurther meaning ids views client (replicate (n + 1) command) a c before after
  further_again n command a b c before lines after line goes made is =
      subst (λ (cs : List Command). GoesFurther meaning ids views client cs a c before after) (sym (replicate_more n command)) (further_one (replicate n command) command a b c before lines after line goes made is)

  pub path_more : (xs : List Repeated) (k : ℕ) (x : Repeated) (first a b : Session data_of keeping) (before after : List ClientLine) → slice_get xs k ≡ Some x → IsPath meaning ids views client first (commands_of (take k xs)) before a
      → GoesFurther meaning ids views client (replicate x.times x.command) a b before after → IsPath meaning ids views client first (commands_of (take (k + 1) xs)) after b
  path_more xs k x first a b before after is path goes =
      subst (λ (cs : List Command). IsPath meaning ids views client first cs after b) (sym (commands_more xs k x is)) (goes.further first (commands_of (take k xs)) path)

  pub further_all : (n times : ℕ) (command : Command) (a b : Session data_of keeping) (before after : List ClientLine) → n ≡ times → GoesFurther meaning ids views client (replicate n command) a b before after
      → GoesFurther meaning ids views client (replicate times command) a b before after
  further_all n times command a b before after all goes = subst (λ (k : ℕ). GoesFurther meaning ids views client (replicate k command) a b before after) all goes

  pub path_none : (first : Session data_of keeping) (lines : List ClientLine) (xs : List Repeated) → lines ≡ [] → IsPath meaning ids views client first (commands_of (take 0 xs)) lines first
  path_none first lines [] none = subst (λ (ls : List ClientLine). IsPath meaning ids views client first [] ls first) (sym none) nothing
  path_none first lines (x ∷ xs) none = subst (λ (ls : List ClientLine). IsPath meaning ids views client first [] ls first) (sym none) nothing

  pub path_next : (xs ys : List Repeated) (k : ℕ) (x : Repeated) (first a b : Session data_of keeping) (before after : List ClientLine) → ys ≡ xs → k < length ys → x ≡ get_or ys k x
      → IsPath meaning ids views client first (commands_of (take k xs)) before a → GoesFurther meaning ids views client (replicate x.times x.command) a b before after → IsPath meaning ids views client first (commands_of (take (k + 1) xs)) after b
  path_next xs ys k x first a b before after same inside is path goes =
      let here : slice_get ys k ≡ Some x = slice_get-get_or ys k x inside ∙ ap Some (sym is) in
      path_more xs k x first a b before after (subst (λ (zs : List Repeated). slice_get zs k ≡ Some x) same here) path goes

  pub path_whole : (xs ys : List Repeated) (k : ℕ) (first a : Session data_of keeping) (lines : List ClientLine) → ys ≡ xs → length ys ≤ k → IsPath meaning ids views client first (commands_of (take k xs)) lines a
      → IsPath meaning ids views client first (commands_of xs) lines a
  path_whole xs ys k first a lines same whole path =
      let enough : length xs ≤ k = let e = ap length same in omega arith in
      subst (λ (zs : List Repeated). IsPath meaning ids views client first (commands_of zs) lines a) (take_whole xs k enough) path

  pub path_told : (xs ys : List Repeated) (k : ℕ) (first a : Session data_of keeping) (lines told : List ClientLine) → ys ≡ xs → length ys ≤ k → IsPath meaning ids views client first (commands_of (take k xs)) lines a → told ≡ lines
      → IsPath meaning ids views client first (commands_of xs) told a
  path_told xs ys k first a lines told same whole path is =
      subst (λ (ls : List ClientLine). IsPath meaning ids views client first (commands_of xs) ls a) (sym is) (path_whole xs ys k first a lines same whole path)
