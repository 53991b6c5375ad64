-- Views, read at places.
use Rattle.std.proofs.Common.{◌≡◌, ℕ, ◌≤◌, Bool, true, false, List, length, drop, Result, Ok, ap, ◌∙◌, inl, inr}
use Rattle.std.specs.Prelude.{◌==◌}
use Rattle.std.proofs.lemmas.Bool.{cases_Bool, eqb-true}
use Rattle.base_bytes.specs.declared.fault.Fault.{Fault}
use Rattle.base_bytes.specs.declared.fault.ReadError.{ReadError}
use Rattle.base_bytes.specs.declared.fault.ReadError.TheVariants as error
use Rattle.base_bytes.specs.Fields.{◌>>=◌, kept, byte_in, word_in}
use Rattle.base_bytes.specs.FieldLaws.{kept_on}
use Rattle.base_places.specs.Places.{FailsAt, fails_first, fails_behind, reads_behind, breaks}
use Rattle.base_places.specs.Lists.{pair_in}
use Rattle.member_views.specs.Views.{View}
use Rattle.member_codec.specs.Views.{is_view, Seat, seats_in, view_with, members_in, parts_in, view_in}

module _ (from : List ℕ) (place : ℕ) where
  -- MEMBERS

  module _ (number given : ℕ) where
    abbrev made : List Seat × List ℕ → Result (View × List ℕ) Fault
    made seats = kept (is_view (view_with number given seats.0)) (length (drop place from)) >>= λ _. Ok (view_with number given seats.0, seats.1)

    pub seats_fail : (e : ReadError) → FailsAt (length from) e (seats_in (drop place from)) → FailsAt (length from) e (members_in number given (drop place from))
    unfolding members_in
    seats_fail e h = fails_first (length from) e (seats_in (drop place from)) made h

    module _ (seats : List Seat) (next : ℕ) (read : seats_in (drop place from) ≡ Ok (seats, drop next from)) where
      pub no_view : place ≤ length from → is_view (view_with number given seats) ≡ false → FailsAt (length from) (error.BadByte place) (members_in number given (drop place from))
      unfolding members_in
      no_view within broken =
          fails_behind (length from) (error.BadByte place) (seats_in (drop place from)) (seats, drop next from) made read
          (breaks from place (is_view (view_with number given seats)) (λ _. Ok (view_with number given seats, drop next from)) within broken)

      pub view_read : is_view (view_with number given seats) ≡ true → members_in number given (drop place from) ≡ Ok (view_with number given seats, drop next from)
      unfolding members_in
      view_read whole =
          reads_behind (seats_in (drop place from)) (seats, drop next from) made read
          ∙ kept_on (is_view (view_with number given seats)) (length (drop place from)) (λ _. Ok (view_with number given seats, drop next from)) whole

  -- WHAT STANDS BEFORE THEM

  pub front_fails : (e : ReadError) → FailsAt (length from) e (pair_in word_in byte_in (drop place from)) → FailsAt (length from) e (parts_in (drop place from))
  unfolding parts_in
  front_fails e h = fails_first (length from) e (pair_in word_in byte_in (drop place from)) (λ front. members_in front.0.0 front.0.1 front.1) h

  pub front_read : (number given next : ℕ) → pair_in word_in byte_in (drop place from) ≡ Ok ((number, given), drop next from) → parts_in (drop place from) ≡ members_in number given (drop next from)
  unfolding parts_in
  front_read number given next read = reads_behind (pair_in word_in byte_in (drop place from)) ((number, given), drop next from) (λ front. members_in front.0.0 front.0.1 front.1) read

  -- THE FORMAT

  abbrev formed : ℕ × List ℕ → Result (View × List ℕ) Fault
  formed format = kept (format.0 == 1) (length (drop place from)) >>= λ _. parts_in format.1

  pub format_fails : (e : ReadError) → FailsAt (length from) e (byte_in (drop place from)) → FailsAt (length from) e (view_in (drop place from))
  unfolding view_in
  format_fails e h = fails_first (length from) e (byte_in (drop place from)) formed h

  module _ (byte next : ℕ) (read : byte_in (drop place from) ≡ Ok (byte, drop next from)) where
    pub format_unknown : place ≤ length from → (byte ≡ 1 → ⊥) → FailsAt (length from) (error.BadByte place) (view_in (drop place from))
    unfolding view_in
    format_unknown within other =
        let broken : (byte == 1) ≡ false = elim (cases_Bool (byte == 1)) [ inl e ↦ absurd (other (eqb-true byte 1 e)) | inr e ↦ e ] in
        fails_behind (length from) (error.BadByte place) (byte_in (drop place from)) (byte, drop next from) formed read (breaks from place (byte == 1) (λ _. parts_in (drop next from)) within broken)

    pub format_read : (byte == 1) ≡ true → view_in (drop place from) ≡ parts_in (drop next from)
    unfolding view_in
    format_read known =
        reads_behind (byte_in (drop place from)) (byte, drop next from) formed read
        ∙ ap (λ (b : Bool). kept b (length (drop place from)) >>= λ _. parts_in (drop next from)) known
