-- Messages of the same parts stand for the same message of the model.
use Rattle.std.proofs.Common.{◌≡◌, ℕ, List, [], ◌∷◌, Option, None, Some, sym, ap, subst, ◌∙◌}
use Rattle.std.specs.Prelude.{map}
use Rattle.std.specs.List.{AllZip}
use Rattle.model_history.specs.Texts.{Text}
use Rattle.model_history.specs.Vector.{VersionVector, IdentitySet}
use Rattle.model_history.specs.History.{History}
use Rattle.model_members.specs.Entry as model
use Rattle.model_members.specs.Entry.{Entry}
use Rattle.model_members.specs.Message as sending
use Rattle.model_members.specs.Message.{Message as Told}
use Rattle.data_lattice.specs.declared.replica.Replica.{Ghosts}
use Rattle.data_envelope.specs.declared.envelope.Envelope.{Envelope}
use Rattle.data_envelope.specs.declared.group.Group.{Group}
use Rattle.data_envelope.specs.Images.{Parts, GroupParts, StandsFor, StandsForGroup}
use Rattle.data_envelope.specs.Words.{parts_of, group_parts}
use Rattle.member_messages.specs.declared.message.Keyed.{Keyed}
use Rattle.member_messages.specs.declared.message.Message.{Message}
use Rattle.member_messages.specs.declared.message.Message.TheVariants.{Deltas, Nack, Status, Gossip, Write, WriteAck, WriteNack, Read, ReadAnswer}
use Rattle.member_messages.specs.Standing.{StandsForEntry, StandsForKeyed, StandsForKeyedGroup, StandsForMessage, digest_told}
use Rattle.member_codec.specs.Keyed.{keyed_as}
use Rattle.member_codec.specs.Messages.{message_parts}

-- lists of the same parts, of which each item stands for one by its parts alone
zip_same : {A B C : Type 0} (f : A → C) (R : A → B → Type 0) → ((a b : A) (m : B) → f a ≡ f b → R a m → R b m) → (xs ys : List A) (ms : List B) → map f xs ≡ map f ys → AllZip R xs ms → AllZip R ys ms
zip_same f R same [] [] ms e z = z
zip_same f R same [] (y ∷ ys) ms e z = absurd (cc e)
zip_same f R same (x ∷ xs) [] ms e z = absurd (cc e)
zip_same f R same (x ∷ xs) (y ∷ ys) [] e z = z
zip_same f R same (x ∷ xs) (y ∷ ys) (m ∷ ms) e z =
    let first : f x ≡ f y = cc e in
    let others : map f xs ≡ map f ys = cc e in
    (same x y m first z.0, zip_same f R same xs ys ms others z.1)

module _ {T Kind Op Delta : Type 0} (kind_of : T → Kind) (IsDataOf : T → History Op → VersionVector → IdentitySet → Type 0) (kinds : Text → Kind) (logs : Text → History Op) where
  entry_same : (key other : Text) (a b : Envelope T Kind Op Delta) (m : Entry Op) → key ≡ other → parts_of a ≡ parts_of b → StandsForEntry kind_of IsDataOf kinds logs key a m → StandsForEntry kind_of IsDataOf kinds logs other b m
  entry_same key other a b m names same s = record {
    kind = sym (ap (λ (p : Parts T). kind_of p.value) same) ∙ s.kind ∙ ap kinds names;
    image =
        subst (λ (p : Parts T). StandsFor IsDataOf p (logs other) m) {x = parts_of a} {y = parts_of b} same
        (subst (λ (k : Text). StandsFor IsDataOf (parts_of a) (logs k) m) names s.image);
  }

  keyed_same : (a b : Keyed (Envelope T Kind Op Delta)) (m : sending.Keyed (Entry Op)) → keyed_as parts_of a ≡ keyed_as parts_of b → StandsForKeyed kind_of IsDataOf kinds logs a m → StandsForKeyed kind_of IsDataOf kinds logs b m
  keyed_same a b m e s =
      let names : a.key ≡ b.key = ap (λ (k : Keyed (Parts T)). k.key) e in
      let same : parts_of a.item ≡ parts_of b.item = ap (λ (k : Keyed (Parts T)). k.item) e in
      record { same = s.same ∙ names; held = entry_same a.key b.key a.item b.item m.item names same s.held }

module _ {T Kind Op Delta : Type 0} {ghosts : Ghosts T Kind Op Delta} (kinds : Text → Kind) (logs : Text → History Op) where
  group_same : (a b : Keyed (Group T Kind Op Delta ghosts)) (m : sending.Keyed (model.Group Op)) → keyed_as group_parts a ≡ keyed_as group_parts b → StandsForKeyedGroup kinds logs a m → StandsForKeyedGroup kinds logs b m
  group_same a b m e s =
      let names : a.key ≡ b.key = ap (λ (k : Keyed (GroupParts Delta)). k.key) e in
      let same : group_parts a.item ≡ group_parts b.item = ap (λ (k : Keyed (GroupParts Delta)). k.item) e in
      record {
        same = s.same ∙ names;
        fits = sym (ap (λ (p : GroupParts Delta). ghosts.delta_fits_kind (kinds b.key) p.changes) same) ∙ ap (λ (k : Text). ghosts.delta_fits_kind (kinds k) a.item.delta) (sym names) ∙ s.fits;
        image =
            subst (λ (p : GroupParts Delta). StandsForGroup ghosts.IsDeltaOf p (logs b.key) m.item) {x = group_parts a.item} {y = group_parts b.item} same
            (subst (λ (k : Text). StandsForGroup ghosts.IsDeltaOf (group_parts a.item) (logs k) m.item) names s.image);
      }

module _ {T Kind Op Delta : Type 0} {ghosts : Ghosts T Kind Op Delta} (kind_of : T → Kind) (IsDataOf : T → History Op → VersionVector → IdentitySet → Type 0) (kinds : Text → Kind) (logs : Text → History Op) where
  pub same_stands : (a b : Message T Kind Op Delta ghosts) (m : Told Op) → message_parts a ≡ message_parts b → StandsForMessage kind_of IsDataOf kinds logs a m → StandsForMessage kind_of IsDataOf kinds logs b m
  same_stands (Deltas groups entries) (Deltas others more) m e s =
      let of_groups : map (keyed_as group_parts) groups ≡ map (keyed_as group_parts) others = cc e in
      let of_entries : map (keyed_as parts_of) entries ≡ map (keyed_as parts_of) more = cc e in
      record {
        sent_groups = s.sent_groups;
        sent_entries = s.sent_entries;
        is = s.is;
        groups_stand = zip_same (keyed_as group_parts) (StandsForKeyedGroup kinds logs) (group_same kinds logs) groups others s.sent_groups of_groups s.groups_stand;
        entries_stand = zip_same (keyed_as parts_of) (StandsForKeyed kind_of IsDataOf kinds logs) (keyed_same kind_of IsDataOf kinds logs) entries more s.sent_entries of_entries s.entries_stand;
      }
  same_stands (Deltas groups entries) _ m e s = absurd (cc e)
  same_stands (Nack keys) (Nack others) m e s = let same : keys ≡ others = cc e in s ∙ ap (λ (k : List Text). Told.Nack k) same
  same_stands (Nack keys) _ m e s = absurd (cc e)
  same_stands (Status digests) (Status others) m e s = let same : digests ≡ others = cc e in s ∙ ap (λ (d : List (Keyed (List ℕ))). Told.Status (map digest_told d)) same
  same_stands (Status digests) _ m e s = absurd (cc e)
  same_stands (Gossip entries wants) (Gossip others names) m e s =
      let of_entries : map (keyed_as parts_of) entries ≡ map (keyed_as parts_of) others = cc e in
      let same : wants ≡ names = cc e in
      record {
        sent_entries = s.sent_entries;
        is = s.is ∙ ap (λ (w : List Text). Told.Gossip s.sent_entries w) same;
        entries_stand = zip_same (keyed_as parts_of) (StandsForKeyed kind_of IsDataOf kinds logs) (keyed_same kind_of IsDataOf kinds logs) entries others s.sent_entries of_entries s.entries_stand;
      }
  same_stands (Gossip entries wants) _ m e s = absurd (cc e)
  same_stands (Write op key envelope) (Write number name other) m e s =
      let of_op : op ≡ number = cc e in
      let of_key : key ≡ name = cc e in
      let of_entry : parts_of envelope ≡ parts_of other = cc e in
      record {
        entry = s.entry;
        is = s.is ∙ ap (λ (o : ℕ). Told.Write o key s.entry) of_op ∙ ap (λ (k : Text). Told.Write number k s.entry) of_key;
        held = entry_same kind_of IsDataOf kinds logs key name envelope other s.entry of_key of_entry s.held;
      }
  same_stands (Write op key envelope) _ m e s = absurd (cc e)
  same_stands (WriteAck op) (WriteAck number) m e s = let same : op ≡ number = cc e in s ∙ ap (λ (o : ℕ). Told.WriteAck o) same
  same_stands (WriteAck op) _ m e s = absurd (cc e)
  same_stands (WriteNack op) (WriteNack number) m e s = let same : op ≡ number = cc e in s ∙ ap (λ (o : ℕ). Told.WriteNack o) same
  same_stands (WriteNack op) _ m e s = absurd (cc e)
  same_stands (Read op key) (Read number name) m e s =
      let of_op : op ≡ number = cc e in
      let of_key : key ≡ name = cc e in
      s ∙ ap (λ (o : ℕ). Told.Read o key) of_op ∙ ap (λ (k : Text). Told.Read number k) of_key
  same_stands (Read op key) _ m e s = absurd (cc e)
  same_stands (ReadAnswer op key None) (ReadAnswer number name None) m e s =
      let of_op : op ≡ number = cc e in
      let of_key : key ≡ name = cc e in
      s ∙ ap (λ (o : ℕ). Told.ReadAnswer o key None) of_op ∙ ap (λ (k : Text). Told.ReadAnswer number k None) of_key
  same_stands (ReadAnswer op key None) _ m e s = absurd (cc e)
  same_stands (ReadAnswer op key (Some envelope)) (ReadAnswer number name (Some other)) m e s =
      let of_op : op ≡ number = cc e in
      let of_key : key ≡ name = cc e in
      let of_entry : parts_of envelope ≡ parts_of other = cc e in
      record {
        entry = s.entry;
        is = s.is ∙ ap (λ (o : ℕ). Told.ReadAnswer o key (Some s.entry)) of_op ∙ ap (λ (k : Text). Told.ReadAnswer number k (Some s.entry)) of_key;
        held = entry_same kind_of IsDataOf kinds logs key name envelope other s.entry of_key of_entry s.held;
      }
  same_stands (ReadAnswer op key (Some envelope)) _ m e s = absurd (cc e)
