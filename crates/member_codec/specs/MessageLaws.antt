-- Messages: what is read is spelled so, and what is spelled so is read again.
use Rattle.std.proofs.Common.{◌≡◌, ℕ, ◌<◌, ◌≤◌, ◌^◌, true, List, [], ◌∷◌, ◌++◌, length, Option, None, Result, Ok, refl, sym, ap, subst, ◌∙◌, arith, ⊎_elim}
use Rattle.std.specs.Prelude.{nat_le, ◌==◌}
use Rattle.std.proofs.lemmas.Bool.{cases_eq, leb-true, and_parts, eqb-true}
use Rattle.model_history.specs.Texts.{Text}
use Rattle.base_bytes.specs.declared.fault.Fault.{Fault}
use Rattle.base_bytes.specs.Fields.{◌>>=◌, kept, byte_in, number_in, text_in}
use Rattle.base_bytes.specs.Spelling.{IsText, number_spelled, text_spelled, AreBytes, Takes}
use Rattle.base_bytes.specs.FieldLaws.{bind_ok, kept_ok, kept_on, ok_is, takes_then, byte_takes}
use Rattle.member_messages.specs.declared.message.Keyed.{Keyed}
use Rattle.member_messages.specs.declared.sketch.MessageKind.{MessageKind}
use Rattle.member_messages.specs.declared.sketch.MessageKind.TheVariants as kind
use Rattle.base_places.specs.Spells.{Spells, number_spells, text_spells}
use Rattle.base_places.specs.Lists.{IsSoundPair, pair_spelled, pair_in, AreSound, list_spelled, list_in}
use Rattle.base_places.specs.ListLaws.{pair_spells, list_spells}
use Rattle.base_places.specs.Options.{IsSoundOption, option_spelled, option_in}
use Rattle.base_places.specs.OptionLaws.{option_spells}
use Rattle.member_codec.specs.Numbers.{IsDigest, digest_spelled, digest_in}
use Rattle.member_codec.specs.NumberLaws.{digest_spells}
use Rattle.member_codec.specs.Keyed.{IsSoundKeyed, keyed_spelled, keyed_in}
use Rattle.member_codec.specs.KeyedLaws.{keyed_spells}
use Rattle.member_codec.specs.Messages.{MessageParts, byte_of, is_kind, kind_at, kind_of, body_spelled, message_spelled, IsMessage, body_in, kind_in, message_in}
use Rattle.member_codec.specs.Messages.MessageParts.{Deltas, Nack, Status, Gossip, Write, WriteAck, WriteNack, Read, ReadAnswer}

known : (k : MessageKind) → is_kind (byte_of k) ≡ true
known kind.Deltas = refl
known kind.Nack = refl
known kind.Status = refl
known kind.Gossip = refl
known kind.Write = refl
known kind.WriteAck = refl
known kind.WriteNack = refl
known kind.Read = refl
known kind.ReadAnswer = refl

kind_back : (k : MessageKind) → kind_at (byte_of k) ≡ k
kind_back kind.Deltas = refl
kind_back kind.Nack = refl
kind_back kind.Status = refl
kind_back kind.Gossip = refl
kind_back kind.Write = refl
kind_back kind.WriteAck = refl
kind_back kind.WriteNack = refl
kind_back kind.Read = refl
kind_back kind.ReadAnswer = refl

byte_back : (byte : ℕ) → is_kind byte ≡ true → byte_of (kind_at byte) ≡ byte
byte_back byte is =
    let both = and_parts (nat_le 1 byte) (nat_le byte 9) is in
    let low : 1 ≤ byte = leb-true 1 byte both.0 in
    let high : byte ≤ 9 = leb-true byte 9 both.1 in
    let at = λ (n : ℕ) (e : byte ≡ n) (t : byte_of (kind_at n) ≡ n). subst (λ (b : ℕ). byte_of (kind_at b) ≡ b) (sym e) t in
    ⊎_elim (λ (e : byte ≡ 1). at 1 e refl) (λ n1.
    ⊎_elim (λ (e : byte ≡ 2). at 2 e refl) (λ n2.
    ⊎_elim (λ (e : byte ≡ 3). at 3 e refl) (λ n3.
    ⊎_elim (λ (e : byte ≡ 4). at 4 e refl) (λ n4.
    ⊎_elim (λ (e : byte ≡ 5). at 5 e refl) (λ n5.
    ⊎_elim (λ (e : byte ≡ 6). at 6 e refl) (λ n6.
    ⊎_elim (λ (e : byte ≡ 7). at 7 e refl) (λ n7.
    ⊎_elim (λ (e : byte ≡ 8). at 8 e refl) (λ n8.
    (let e : byte ≡ 9 = omega arith in at 9 e refl))
    (cases_eq byte 8)) (cases_eq byte 7)) (cases_eq byte 6)) (cases_eq byte 5)) (cases_eq byte 4)) (cases_eq byte 3)) (cases_eq byte 2)) (cases_eq byte 1)

module _ {Entry Group : Type 0} (IsEntry : Entry → Type 0) (entry : Entry → List ℕ) (entry_in : List ℕ → Result (Entry × List ℕ) Fault) (entries_spell : Spells IsEntry entry entry_in) (IsGroup : Group → Type 0) (group : Group → List ℕ) (group_in : List ℕ → Result (Group × List ℕ) Fault)
    (groups_spell : Spells IsGroup group group_in) where
  keyed_groups : Spells (AreSound (IsSoundKeyed IsGroup)) (list_spelled (keyed_spelled group)) (list_in (keyed_in group_in))
  keyed_groups = list_spells (IsSoundKeyed IsGroup) (keyed_spelled group) (keyed_in group_in) (keyed_spells IsGroup group group_in groups_spell)

  keyed_entries : Spells (AreSound (IsSoundKeyed IsEntry)) (list_spelled (keyed_spelled entry)) (list_in (keyed_in entry_in))
  keyed_entries = list_spells (IsSoundKeyed IsEntry) (keyed_spelled entry) (keyed_in entry_in) (keyed_spells IsEntry entry entry_in entries_spell)

  texts : Spells (AreSound IsText) (list_spelled text_spelled) (list_in (text_in None))
  texts = list_spells IsText text_spelled (text_in None) text_spells

  digests : Spells (AreSound (IsSoundKeyed IsDigest)) (list_spelled (keyed_spelled digest_spelled)) (list_in (keyed_in digest_in))
  digests = list_spells (IsSoundKeyed IsDigest) (keyed_spelled digest_spelled) (keyed_in digest_in) (keyed_spells IsDigest digest_spelled digest_in digest_spells)

  deltas : Spells (IsSoundPair (AreSound (IsSoundKeyed IsGroup)) (AreSound (IsSoundKeyed IsEntry))) (pair_spelled (list_spelled (keyed_spelled group)) (list_spelled (keyed_spelled entry))) (pair_in (list_in (keyed_in group_in)) (list_in (keyed_in entry_in)))
  deltas = pair_spells (AreSound (IsSoundKeyed IsGroup)) (list_spelled (keyed_spelled group)) (list_in (keyed_in group_in)) (AreSound (IsSoundKeyed IsEntry)) (list_spelled (keyed_spelled entry)) (list_in (keyed_in entry_in)) keyed_groups keyed_entries

  gossips : Spells (IsSoundPair (AreSound (IsSoundKeyed IsEntry)) (AreSound IsText)) (pair_spelled (list_spelled (keyed_spelled entry)) (list_spelled text_spelled)) (pair_in (list_in (keyed_in entry_in)) (list_in (text_in None)))
  gossips = pair_spells (AreSound (IsSoundKeyed IsEntry)) (list_spelled (keyed_spelled entry)) (list_in (keyed_in entry_in)) (AreSound IsText) (list_spelled text_spelled) (list_in (text_in None)) keyed_entries texts

  keyed_entry : Spells (IsSoundPair IsText IsEntry) (pair_spelled text_spelled entry) (pair_in (text_in None) entry_in)
  keyed_entry = pair_spells IsText text_spelled (text_in None) IsEntry entry entry_in text_spells entries_spell

  writes : Spells (IsSoundPair (λ n. n < 2 ^ 64) (IsSoundPair IsText IsEntry)) (pair_spelled number_spelled (pair_spelled text_spelled entry)) (pair_in number_in (pair_in (text_in None) entry_in))
  writes = pair_spells (λ n. n < 2 ^ 64) number_spelled number_in (IsSoundPair IsText IsEntry) (pair_spelled text_spelled entry) (pair_in (text_in None) entry_in) number_spells keyed_entry

  reads : Spells (IsSoundPair (λ n. n < 2 ^ 64) IsText) (pair_spelled number_spelled text_spelled) (pair_in number_in (text_in None))
  reads = pair_spells (λ n. n < 2 ^ 64) number_spelled number_in IsText text_spelled (text_in None) number_spells text_spells

  keyed_option : Spells (IsSoundPair IsText (IsSoundOption IsEntry)) (pair_spelled text_spelled (option_spelled entry)) (pair_in (text_in None) (option_in entry_in))
  keyed_option = pair_spells IsText text_spelled (text_in None) (IsSoundOption IsEntry) (option_spelled entry) (option_in entry_in) text_spells (option_spells IsEntry entry entry_in entries_spell)

  answers : Spells (IsSoundPair (λ n. n < 2 ^ 64) (IsSoundPair IsText (IsSoundOption IsEntry))) (pair_spelled number_spelled (pair_spelled text_spelled (option_spelled entry))) (pair_in number_in (pair_in (text_in None) (option_in entry_in)))
  answers = pair_spells (λ n. n < 2 ^ 64) number_spelled number_in (IsSoundPair IsText (IsSoundOption IsEntry)) (pair_spelled text_spelled (option_spelled entry)) (pair_in (text_in None) (option_in entry_in)) number_spells keyed_option

  abbrev Body : MessageKind → List ℕ → MessageParts Entry Group × List ℕ → Type 0
  Body k bytes x = Takes bytes (body_spelled entry group x.0) x.1 × IsMessage IsEntry IsGroup x.0 × (kind_of x.0 ≡ k)

  body_of : {X : Type 0} (Sound : X → Type 0) (spelled : X → List ℕ) (x_in : List ℕ → Result (X × List ℕ) Fault) → Spells Sound spelled x_in → (make : X → MessageParts Entry Group) (k : MessageKind)
      → ((x : X) → body_spelled entry group (make x) ≡ spelled x) → ((x : X) → Sound x → IsMessage IsEntry IsGroup (make x)) → ((x : X) → kind_of (make x) ≡ k)
      → (bytes : List ℕ) (y : MessageParts Entry Group × List ℕ) → AreBytes bytes → (x_in bytes >>= λ x. Ok (make x.0, x.1)) ≡ Ok y → Body k bytes y
  body_of {X = X} Sound spelled x_in p make k same sound of_kind bytes y fits e =
      let a = bind_ok (x_in bytes) (λ x. Ok (make x.0, x.1)) y e in
      let x : X × List ℕ = a.0 in
      let t = p.takes bytes x.0 x.1 fits a.1 in
      subst (Body k bytes) {x = (make x.0, x.1)} {y = y} (ok_is (make x.0, x.1) y a.2) (subst (λ (s : List ℕ). Takes bytes s x.1) (sym (same x.0)) t.0, sound x.0 t.1, of_kind x.0)

  body_takes : (k : MessageKind) (bytes : List ℕ) (x : MessageParts Entry Group × List ℕ) → AreBytes bytes → body_in entry_in group_in k bytes ≡ Ok x → Body k bytes x
  body_takes kind.Deltas = body_of (IsSoundPair (AreSound (IsSoundKeyed IsGroup)) (AreSound (IsSoundKeyed IsEntry))) (pair_spelled (list_spelled (keyed_spelled group)) (list_spelled (keyed_spelled entry))) (pair_in (list_in (keyed_in group_in)) (list_in (keyed_in entry_in))) deltas (λ x. Deltas x.0 x.1) kind.Deltas (λ x. refl) (λ x s. s) (λ x. refl)
  body_takes kind.Nack = body_of (AreSound IsText) (list_spelled text_spelled) (list_in (text_in None)) texts Nack kind.Nack (λ x. refl) (λ x s. s) (λ x. refl)
  body_takes kind.Status = body_of (AreSound (IsSoundKeyed IsDigest)) (list_spelled (keyed_spelled digest_spelled)) (list_in (keyed_in digest_in)) digests Status kind.Status (λ x. refl) (λ x s. s) (λ x. refl)
  body_takes kind.Gossip = body_of (IsSoundPair (AreSound (IsSoundKeyed IsEntry)) (AreSound IsText)) (pair_spelled (list_spelled (keyed_spelled entry)) (list_spelled text_spelled)) (pair_in (list_in (keyed_in entry_in)) (list_in (text_in None))) gossips (λ x. Gossip x.0 x.1) kind.Gossip (λ x. refl) (λ x s. s) (λ x. refl)
  body_takes kind.Write = body_of (IsSoundPair (λ n. n < 2 ^ 64) (IsSoundPair IsText IsEntry)) (pair_spelled number_spelled (pair_spelled text_spelled entry)) (pair_in number_in (pair_in (text_in None) entry_in)) writes (λ x. Write x.0 x.1.0 x.1.1) kind.Write (λ x. refl) (λ x s. s) (λ x. refl)
  body_takes kind.WriteAck = body_of (λ n. n < 2 ^ 64) number_spelled number_in number_spells WriteAck kind.WriteAck (λ x. refl) (λ x s. s) (λ x. refl)
  body_takes kind.WriteNack = body_of (λ n. n < 2 ^ 64) number_spelled number_in number_spells WriteNack kind.WriteNack (λ x. refl) (λ x s. s) (λ x. refl)
  body_takes kind.Read = body_of (IsSoundPair (λ n. n < 2 ^ 64) IsText) (pair_spelled number_spelled text_spelled) (pair_in number_in (text_in None)) reads (λ x. Read x.0 x.1) kind.Read (λ x. refl) (λ x s. s) (λ x. refl)
  body_takes kind.ReadAnswer = body_of (IsSoundPair (λ n. n < 2 ^ 64) (IsSoundPair IsText (IsSoundOption IsEntry))) (pair_spelled number_spelled (pair_spelled text_spelled (option_spelled entry))) (pair_in number_in (pair_in (text_in None) (option_in entry_in))) answers (λ x. ReadAnswer x.0 x.1.0 x.1.1) kind.ReadAnswer (λ x. refl) (λ x s. s) (λ x. refl)

  body_again : (x : MessageParts Entry Group) (rest : List ℕ) → IsMessage IsEntry IsGroup x → body_in entry_in group_in (kind_of x) (body_spelled entry group x ++ rest) ≡ Ok (x, rest)
  body_again (Deltas groups entries) rest s = ap (λ (r : Result ((List (Keyed Group) × List (Keyed Entry)) × List ℕ) Fault). r >>= λ x. Ok (Deltas x.0.0 x.0.1, x.1)) (deltas.again (groups, entries) rest s)
  body_again (Nack keys) rest s = ap (λ (r : Result (List Text × List ℕ) Fault). r >>= λ x. Ok (Nack x.0, x.1)) (texts.again keys rest s)
  body_again (Status told) rest s = ap (λ (r : Result (List (Keyed (List ℕ)) × List ℕ) Fault). r >>= λ x. Ok (Status x.0, x.1)) (digests.again told rest s)
  body_again (Gossip entries wants) rest s = ap (λ (r : Result ((List (Keyed Entry) × List Text) × List ℕ) Fault). r >>= λ x. Ok (Gossip x.0.0 x.0.1, x.1)) (gossips.again (entries, wants) rest s)
  body_again (Write op key envelope) rest s = ap (λ (r : Result ((ℕ × (Text × Entry)) × List ℕ) Fault). r >>= λ x. Ok (Write x.0.0 x.0.1.0 x.0.1.1, x.1)) (writes.again (op, (key, envelope)) rest s)
  body_again (WriteAck op) rest s = ap (λ (r : Result (ℕ × List ℕ) Fault). r >>= λ x. Ok (WriteAck x.0, x.1)) (number_spells.again op rest s)
  body_again (WriteNack op) rest s = ap (λ (r : Result (ℕ × List ℕ) Fault). r >>= λ x. Ok (WriteNack x.0, x.1)) (number_spells.again op rest s)
  body_again (Read op key) rest s = ap (λ (r : Result ((ℕ × Text) × List ℕ) Fault). r >>= λ x. Ok (Read x.0.0 x.0.1, x.1)) (reads.again (op, key) rest s)
  body_again (ReadAnswer op key envelope) rest s = ap (λ (r : Result ((ℕ × (Text × Option Entry)) × List ℕ) Fault). r >>= λ x. Ok (ReadAnswer x.0.0 x.0.1.0 x.0.1.1, x.1)) (answers.again (op, (key, envelope)) rest s)

  kind_takes : (bytes : List ℕ) (x : MessageParts Entry Group × List ℕ) → AreBytes bytes → kind_in entry_in group_in bytes ≡ Ok x → Takes bytes (byte_of (kind_of x.0) ∷ body_spelled entry group x.0) x.1 × IsMessage IsEntry IsGroup x.0
  unfolding kind_in
  kind_takes bytes x fits e =
      let a = bind_ok (byte_in bytes) (λ byte. kept (is_kind byte.0) (length bytes) >>= λ _. body_in entry_in group_in (kind_at byte.0) byte.1) x e in
      let byte : ℕ × List ℕ = a.0 in
      let k = kept_ok (is_kind byte.0) (length bytes) (λ _. body_in entry_in group_in (kind_at byte.0) byte.1) x a.2 in
      let first = byte_takes bytes byte.0 byte.1 fits a.1 in
      let second = body_takes (kind_at byte.0) byte.1 x first.0.rest_are_bytes k.1 in
      let same : byte.0 ≡ byte_of (kind_of x.0) = sym (byte_back byte.0 k.0) ∙ ap byte_of (sym second.2) in
      let both = takes_then bytes (byte.0 ∷ []) byte.1 (body_spelled entry group x.0) x.1 first.0 second.0 in
      (subst (λ (n : ℕ). Takes bytes (n ∷ body_spelled entry group x.0) x.1) same both, second.1)

  kind_again : (x : MessageParts Entry Group) (rest : List ℕ) → IsMessage IsEntry IsGroup x → kind_in entry_in group_in (byte_of (kind_of x) ∷ (body_spelled entry group x ++ rest)) ≡ Ok (x, rest)
  unfolding kind_in
  kind_again x rest is =
      let left : List ℕ = body_spelled entry group x ++ rest in
      kept_on (is_kind (byte_of (kind_of x))) (length (byte_of (kind_of x) ∷ left)) (λ _. body_in entry_in group_in (kind_at (byte_of (kind_of x))) left) (known (kind_of x))
      ∙ ap (λ (k : MessageKind). body_in entry_in group_in k left) (kind_back (kind_of x)) ∙ body_again x rest is

  message_takes : (bytes : List ℕ) (x : MessageParts Entry Group) (rest : List ℕ) → AreBytes bytes → message_in entry_in group_in bytes ≡ Ok (x, rest) → Takes bytes (message_spelled entry group x) rest × IsMessage IsEntry IsGroup x
  unfolding message_in
  message_takes bytes x rest fits e =
      let a = bind_ok (byte_in bytes) (λ format. kept (format.0 == 1) (length bytes) >>= λ _. kind_in entry_in group_in format.1) (x, rest) e in
      let format : ℕ × List ℕ = a.0 in
      let k = kept_ok (format.0 == 1) (length bytes) (λ _. kind_in entry_in group_in format.1) (x, rest) a.2 in
      let first = byte_takes bytes format.0 format.1 fits a.1 in
      let second = kind_takes format.1 (x, rest) first.0.rest_are_bytes k.1 in
      let both = takes_then bytes (format.0 ∷ []) format.1 (byte_of (kind_of x) ∷ body_spelled entry group x) rest first.0 second.0 in
      (subst (λ (n : ℕ). Takes bytes (n ∷ (byte_of (kind_of x) ∷ body_spelled entry group x)) rest) (eqb-true format.0 1 k.0) both, second.1)

  message_again : (x : MessageParts Entry Group) (rest : List ℕ) → IsMessage IsEntry IsGroup x → message_in entry_in group_in (message_spelled entry group x ++ rest) ≡ Ok (x, rest)
  unfolding message_in
  message_again x rest is = kind_again x rest is

  pub message_spells : Spells (IsMessage IsEntry IsGroup) (message_spelled entry group) (message_in entry_in group_in)
  message_spells = record { takes = message_takes; again = message_again }
