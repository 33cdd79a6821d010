-- A text that has a fault spells no keys, and has it at one place.
use Rattle.std.proofs.Common.{◌≡◌, ◌⊎◌, inl, inr, ℕ, None, List, [], length, refl, sym, ap, ◌∙◌, subst}
use Rattle.std.proofs.lemmas.List.{append-nil}
use Rattle.skk_text.specs.KeyText.{spelled, AreKeys, BeginsBadName, BeginsNotAscii, HasBadName, HasNotAscii, HasFault}
use Rattle.skk_text.specs.declared.key.Key.{Key}
use Rattle.skk_text.proofs.KeySpelling.{first_key, first_key-bad_name, first_key-not_ascii, same_reading}

-- with a fault no key begins
abbrev NoKey : (List ℕ → Type 0) → Type 0
NoKey BeginsFault = (rest : List ℕ) → BeginsFault rest → first_key rest ≡ None

-- so two faults stand at one place
same_faults : (Begins Others : List ℕ → Type 0) → NoKey Begins → NoKey Others → (text : List ℕ) (at other : ℕ)
    → HasFault Begins text at → HasFault Others text other → at ≡ other
same_faults Begins Others none nowhere text at other has had =
    let same = same_reading has.keys had.keys has.rest had.rest has.are_keys had.are_keys (none has.rest has.fault)
    (nowhere had.rest had.fault) (sym has.spelling ∙ had.spelling) in
    has.place ∙ ap (λ keys. length (spelled keys)) same.0 ∙ sym had.place

pub one_place : (text : List ℕ) (at other : ℕ) → HasBadName text at ⊎ HasNotAscii text at
    → HasBadName text other ⊎ HasNotAscii text other → at ≡ other
one_place text at other (inl has) (inl had) =
    same_faults BeginsBadName BeginsBadName first_key-bad_name first_key-bad_name text at other has had
one_place text at other (inl has) (inr had) =
    same_faults BeginsBadName BeginsNotAscii first_key-bad_name first_key-not_ascii text at other has had
one_place text at other (inr has) (inl had) =
    same_faults BeginsNotAscii BeginsBadName first_key-not_ascii first_key-bad_name text at other has had
one_place text at other (inr has) (inr had) =
    same_faults BeginsNotAscii BeginsNotAscii first_key-not_ascii first_key-not_ascii text at other has had

-- and behind keys that are the whole text nothing stands that begins with one
nothing-left : (Begins : List ℕ → Type 0) → NoKey Begins → (text : List ℕ) (keys : List Key) (at : ℕ) → AreKeys keys
    → spelled keys ≡ text → HasFault Begins text at → Begins []
nothing-left Begins none text keys at are e has =
    let same = same_reading keys has.keys [] has.rest are has.are_keys refl (none has.rest has.fault)
    (append-nil (spelled keys) ∙ e ∙ has.spelling) in
    subst Begins (sym same.1) has.fault

-- as nothing begins with a fault
no_bad_name : BeginsBadName [] → ⊥
no_bad_name (rest, e, none) = cc

no_bad_byte : BeginsNotAscii [] → ⊥
no_bad_byte (byte, rest, e, other) = cc

pub no_keys : (text : List ℕ) (keys : List Key) (at : ℕ) → AreKeys keys → spelled keys ≡ text
    → ¬ (HasBadName text at ⊎ HasNotAscii text at)
no_keys text keys at are e (inl has) =
    no_bad_name (nothing-left BeginsBadName first_key-bad_name text keys at are e has)
no_keys text keys at are e (inr has) =
    no_bad_byte (nothing-left BeginsNotAscii first_key-not_ascii text keys at are e has)
