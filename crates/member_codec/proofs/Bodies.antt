-- What messages bring, read at places.
use Rattle.std.proofs.Common.{◌≡◌, ℕ, ◌≤◌, Bool, true, false, List, length, drop, None, Result, Ok, sym, ap, ◌∙◌, inl, inr}
use Rattle.std.specs.Prelude.{◌==◌}
use Rattle.std.proofs.lemmas.Bool.{cases_Bool, eqb-true}
use Rattle.base_bytes.specs.declared.fault.Fault.{Fault}
use Rattle.base_bytes.specs.declared.fault.ReadError.{ReadError}
use Rattle.base_bytes.specs.declared.fault.ReadError.TheVariants as error
use Rattle.base_bytes.specs.Fields.{◌>>=◌, kept, byte_in, number_in, text_in}
use Rattle.member_messages.specs.declared.sketch.MessageKind.{MessageKind}
use Rattle.member_messages.specs.declared.sketch.MessageKind.TheVariants as kind
use Rattle.base_places.specs.Places.{FailsAt, fails_first, fails_behind, reads_behind, breaks}
use Rattle.base_places.specs.Lists.{pair_in, list_in, made_in}
use Rattle.member_codec.specs.Numbers.{digest_in}
use Rattle.base_places.specs.Options.{option_in}
use Rattle.member_codec.specs.Keyed.{keyed_in}
use Rattle.member_codec.specs.Messages.{MessageParts, is_kind, kind_at, body_in, kind_in, message_in}
use Rattle.member_codec.specs.Messages.MessageParts.{Deltas, Nack, Status, Gossip, Write, WriteAck, WriteNack, Read, ReadAnswer}

made_fails : {X Y : Type 0} (make : X → Y) (x_in : List ℕ → Result (X × List ℕ) Fault) (total : ℕ) (bytes : List ℕ) (e : ReadError) → FailsAt total e (x_in bytes) → FailsAt total e (made_in make x_in bytes)
made_fails make x_in total bytes e h = fails_first total e (x_in bytes) (λ x. Ok (make x.0, x.1)) h

module _ {Entry Group : Type 0} (entry_in : List ℕ → Result (Entry × List ℕ) Fault) (group_in : List ℕ → Result (Group × List ℕ) Fault) (from : List ℕ) (place : ℕ) where
  pub deltas_fails : (e : ReadError) → FailsAt (length from) e ((pair_in (list_in (keyed_in group_in)) (list_in (keyed_in entry_in))) (drop place from)) → FailsAt (length from) e (body_in entry_in group_in kind.Deltas (drop place from))
  deltas_fails e h = made_fails (λ x. Deltas x.0 x.1) (pair_in (list_in (keyed_in group_in)) (list_in (keyed_in entry_in))) (length from) (drop place from) e h

  pub nack_fails : (e : ReadError) → FailsAt (length from) e ((list_in (text_in None)) (drop place from)) → FailsAt (length from) e (body_in entry_in group_in kind.Nack (drop place from))
  nack_fails e h = made_fails Nack (list_in (text_in None)) (length from) (drop place from) e h

  pub status_fails : (e : ReadError) → FailsAt (length from) e ((list_in (keyed_in digest_in)) (drop place from)) → FailsAt (length from) e (body_in entry_in group_in kind.Status (drop place from))
  status_fails e h = made_fails Status (list_in (keyed_in digest_in)) (length from) (drop place from) e h

  pub gossip_fails : (e : ReadError) → FailsAt (length from) e ((pair_in (list_in (keyed_in entry_in)) (list_in (text_in None))) (drop place from)) → FailsAt (length from) e (body_in entry_in group_in kind.Gossip (drop place from))
  gossip_fails e h = made_fails (λ x. Gossip x.0 x.1) (pair_in (list_in (keyed_in entry_in)) (list_in (text_in None))) (length from) (drop place from) e h

  pub write_fails : (e : ReadError) → FailsAt (length from) e ((pair_in number_in (pair_in (text_in None) entry_in)) (drop place from)) → FailsAt (length from) e (body_in entry_in group_in kind.Write (drop place from))
  write_fails e h = made_fails (λ x. Write x.0 x.1.0 x.1.1) (pair_in number_in (pair_in (text_in None) entry_in)) (length from) (drop place from) e h

  pub write_ack_fails : (e : ReadError) → FailsAt (length from) e ((number_in) (drop place from)) → FailsAt (length from) e (body_in entry_in group_in kind.WriteAck (drop place from))
  write_ack_fails e h = made_fails WriteAck (number_in) (length from) (drop place from) e h

  pub write_nack_fails : (e : ReadError) → FailsAt (length from) e ((number_in) (drop place from)) → FailsAt (length from) e (body_in entry_in group_in kind.WriteNack (drop place from))
  write_nack_fails e h = made_fails WriteNack (number_in) (length from) (drop place from) e h

  pub read_fails : (e : ReadError) → FailsAt (length from) e ((pair_in number_in (text_in None)) (drop place from)) → FailsAt (length from) e (body_in entry_in group_in kind.Read (drop place from))
  read_fails e h = made_fails (λ x. Read x.0 x.1) (pair_in number_in (text_in None)) (length from) (drop place from) e h

  pub read_answer_fails : (e : ReadError) → FailsAt (length from) e ((pair_in number_in (pair_in (text_in None) (option_in entry_in))) (drop place from)) → FailsAt (length from) e (body_in entry_in group_in kind.ReadAnswer (drop place from))
  read_answer_fails e h = made_fails (λ x. ReadAnswer x.0 x.1.0 x.1.1) (pair_in number_in (pair_in (text_in None) (option_in entry_in))) (length from) (drop place from) e h

  abbrev ruled : ℕ × List ℕ → Result (MessageParts Entry Group × List ℕ) Fault
  ruled byte = kept (is_kind byte.0) (length (drop place from)) >>= λ _. body_in entry_in group_in (kind_at byte.0) byte.1

  pub kind_fails : (e : ReadError) → FailsAt (length from) e (byte_in (drop place from)) → FailsAt (length from) e (kind_in entry_in group_in (drop place from))
  unfolding kind_in
  kind_fails e h = fails_first (length from) e (byte_in (drop place from)) ruled h

  abbrev formed : ℕ × List ℕ → Result (MessageParts Entry Group × List ℕ) Fault
  formed format = kept (format.0 == 1) (length (drop place from)) >>= λ _. kind_in entry_in group_in format.1

  pub format_fails : (e : ReadError) → FailsAt (length from) e (byte_in (drop place from)) → FailsAt (length from) e (message_in entry_in group_in (drop place from))
  unfolding message_in
  format_fails e h = fails_first (length from) e (byte_in (drop place from)) formed h

  module _ (byte next : ℕ) (read : byte_in (drop place from) ≡ Ok (byte, drop next from)) where
    pub kind_unknown : place ≤ length from → is_kind byte ≡ false → FailsAt (length from) (error.BadByte place) (kind_in entry_in group_in (drop place from))
    unfolding kind_in
    kind_unknown within broken =
        fails_behind (length from) (error.BadByte place) (byte_in (drop place from)) (byte, drop next from) ruled read (breaks from place (is_kind byte) (λ _. body_in entry_in group_in (kind_at byte) (drop next from)) within broken)

    pub kind_read : is_kind byte ≡ true → (k : MessageKind) → k ≡ kind_at byte → kind_in entry_in group_in (drop place from) ≡ body_in entry_in group_in k (drop next from)
    unfolding kind_in
    kind_read known k is =
        reads_behind (byte_in (drop place from)) (byte, drop next from) ruled read
        ∙ ap (λ (b : Bool). kept b (length (drop place from)) >>= λ _. body_in entry_in group_in (kind_at byte) (drop next from)) known
        ∙ ap (λ (k : MessageKind). body_in entry_in group_in k (drop next from)) (sym is)

    pub format_unknown : place ≤ length from → (byte ≡ 1 → ⊥) → FailsAt (length from) (error.BadByte place) (message_in entry_in group_in (drop place from))
    unfolding message_in
    format_unknown within other =
        let broken : (byte == 1) ≡ false = elim (cases_Bool (byte == 1)) [ inl e ↦ absurd (other (eqb-true byte 1 e)) | inr e ↦ e ] in
        fails_behind (length from) (error.BadByte place) (byte_in (drop place from)) (byte, drop next from) formed read (breaks from place (byte == 1) (λ _. kind_in entry_in group_in (drop next from)) within broken)

    pub format_read : (byte == 1) ≡ true → message_in entry_in group_in (drop place from) ≡ kind_in entry_in group_in (drop next from)
    unfolding message_in
    format_read known =
        reads_behind (byte_in (drop place from)) (byte, drop next from) formed read
        ∙ ap (λ (b : Bool). kept b (length (drop place from)) >>= λ _. kind_in entry_in group_in (drop next from)) known
