-- What has been read of key text, and what its fault says of the whole.
use Rattle.std.proofs.Common.{◌≡◌, ◌≢◌, ℕ, ◌+◌, ◌≤◌, true, List, [], ◌∷◌, ◌++◌, ◌∙◌, None, Result, Ok, Err, IsErrOf}
use Rattle.std.proofs.Common.{inr, refl, sym, ap, subst, length, take, drop, length-append, length-drop, arith}
use Rattle.std.specs.List.{list_all}
use Rattle.std.proofs.Math.Seq.{take-add, take-append_seam}
use Rattle.std.proofs.lemmas.Bool.{and_from}
use Rattle.std.proofs.lemmas.Grind.{flat_map-append}
use Rattle.std.proofs.lemmas.List.{append-nil, length-take-le, nil_from_length, take-append-drop}
use Rattle.std.proofs.lemmas.List.Folds.{list_all-append}
use Rattle.skk_text.specs.KeyText.{spell, spelled, is_keyboard_key, is_printable, AreKeys, BeginsBadName}
use Rattle.skk_text.specs.KeyText.{BeginsNotAscii, HasBadName, HasNotAscii, HasFault}
use Rattle.skk_text.specs.Results.{AnswersUnless}
use Rattle.skk_text.specs.declared.key.Key.{Key}
use Rattle.skk_text.specs.declared.key_text.KeyFault.{KeyFault}
use Rattle.skk_text.specs.declared.key_text.KeyFault.TheVariants.{BadName, NotAscii, Memory}
use Rattle.skk_text.proofs.KeySpelling.{first_key, first_key-bad_name, first_key-not_ascii, same_reading}

-- the bytes before a place are the spelling of the keys
pub record Read (bytes : List ℕ) (keys : List Key) (at : ℕ) : Type 0 where
  pub within : at ≤ length bytes
  pub are_keys : AreKeys keys
  pub spelling : spelled keys ≡ take at bytes

-- one more key
pub read_more : (bytes : List ℕ) (keys : List Key) (at : ℕ) (k : Key) (size : ℕ) → Read bytes keys at
    → is_keyboard_key k ≡ true → size ≡ length (spell k) → drop at bytes ≡ spell k ++ drop (at + size) bytes
    → Read bytes (keys ++ k ∷ []) (at + size)
read_more bytes keys at k size read h n e =
    let left : length (drop at bytes) ≡ length (spell k) + length (drop (at + size) bytes) =
    ap length e ∙ length-append (spell k) (drop (at + size) bytes) in
    record {
      within = omega (arith, left, length-drop at bytes, length-drop (at + size) bytes);
      are_keys =
          list_all-append is_keyboard_key keys (k ∷ [])
          ∙ and_from (list_all is_keyboard_key keys) _ read.are_keys (and_from (is_keyboard_key k) true h refl);
      spelling =
          flat_map-append spell keys (k ∷ [])
          ∙ (ap (λ bs. spelled keys ++ bs) (append-nil (spell k)) ∙ (ap (λ bs. bs ++ spell k) read.spelling
          ∙ sym (take-add at size bytes
          ∙ ap (λ bs. take at bytes ++ bs) (ap (take size) e ∙ (ap (λ m. take m (spell k ++ drop (at + size) bytes)) n
          ∙ take-append_seam (spell k) (drop (at + size) bytes))))));
    }

module _ (bytes : List ℕ) (keys : List Key) (at : ℕ) (read : Read bytes keys at) where
  -- the bytes are the spelling of what was read, and what is left
  read_prefix : bytes ≡ spelled keys ++ drop at bytes
  read_prefix = sym (take-append-drop at bytes) ∙ ap (λ bs. bs ++ drop at bytes) (sym read.spelling)

  -- the place is the length of that spelling
  place-spelled : at ≡ length (spelled keys)
  place-spelled = sym (length-take-le at bytes read.within) ∙ ap length (sym read.spelling)

  -- where no key begins at the place, each reading has come to it
  same_place : first_key (drop at bytes) ≡ None → (others : List Key) (rest : List ℕ) → AreKeys others
      → first_key rest ≡ None → bytes ≡ spelled others ++ rest → (keys ≡ others) × (drop at bytes ≡ rest)
  same_place ends others rest os none e =
      same_reading keys others (drop at bytes) rest read.are_keys os ends none (sym read_prefix ∙ e)

  -- so keys whose spelling the bytes are, are those that were read, and nothing is left
  same_spelling : first_key (drop at bytes) ≡ None → (others : List Key) → AreKeys others → spelled others ≡ bytes
      → (keys ≡ others) × (drop at bytes ≡ [])
  same_spelling ends others os e = same_place ends others [] os refl (sym (append-nil (spelled others) ∙ e))

  -- and a fault of the whole stands at the place
  fault_place : (BeginsFault : List ℕ → Type 0) → ((rest : List ℕ) → BeginsFault rest → first_key rest ≡ None)
      → first_key (drop at bytes) ≡ None
      → (place : ℕ) → HasFault BeginsFault bytes place → (place ≡ at) × BeginsFault (drop at bytes)
  fault_place BeginsFault no_key ends place has =
      let found : (keys ≡ has.keys) × (drop at bytes ≡ has.rest) =
      same_place ends has.keys has.rest has.are_keys (no_key has.rest has.fault) has.spelling in (
        has.place ∙ ap (λ ks. length (spelled ks)) (sym found.0) ∙ sym place-spelled,
        subst BeginsFault (sym found.1) has.fault,
      )

  -- what begins with a fault at the place has it there
  pub has_fault : (BeginsFault : List ℕ → Type 0) (place : ℕ) → (place ≡ at) × BeginsFault (drop at bytes)
      → HasFault BeginsFault bytes place
  has_fault BeginsFault place (same, fault) =
      record {
        keys = keys;
        rest = drop at bytes;
        are_keys = read.are_keys;
        spelling = read_prefix;
        place = same ∙ place-spelled;
        fault = fault;
      }

-- no bytes begin with both faults
one_fault : (bytes : List ℕ) → BeginsBadName bytes → BeginsNotAscii bytes → ⊥
one_fault bytes (rest, e, none) (byte, tail, f, other) =
    let both : 60 ∷ rest ≡ byte ∷ tail = sym e ∙ f in
    let lt : 60 ≡ byte = cc in
    let printable : true ≡ is_printable byte = ap is_printable lt in cc

-- the fault of a place
abbrev pub FaultAt : List ℕ → ℕ → KeyFault → Type 0
FaultAt bytes at (BadName place) = (place ≡ at) × BeginsBadName (drop at bytes)
FaultAt bytes at (NotAscii place) = (place ≡ at) × BeginsNotAscii (drop at bytes)
FaultAt bytes at Memory = ⊥

pub fault_at : (T : Type 0) (bytes : List ℕ) (at : ℕ) (fault : KeyFault)
    → ((place : ℕ) → IsErrOf {T = T} {E = KeyFault} (Err fault) (BadName place)
    → (place ≡ at) × BeginsBadName (drop at bytes))
    → ((place : ℕ) → IsErrOf {T = T} {E = KeyFault} (Err fault) (NotAscii place)
    → (place ≡ at) × BeginsNotAscii (drop at bytes))
    → ◌≢◌ {A = Result T KeyFault} (Err fault) (Err Memory)
    → FaultAt bytes at fault
fault_at T bytes at (BadName place) bad other memory = bad place refl
fault_at T bytes at (NotAscii place) bad other memory = other place refl
fault_at T bytes at Memory bad other memory = memory refl

-- there no key begins
fault-first_key : (bytes : List ℕ) (at : ℕ) (fault : KeyFault) → FaultAt bytes at fault
    → first_key (drop at bytes) ≡ None
fault-first_key bytes at (BadName place) (e, bad) = first_key-bad_name (drop at bytes) bad
fault-first_key bytes at (NotAscii place) (e, other) = first_key-not_ascii (drop at bytes) other
fault-first_key bytes at Memory h = absurd h

-- and the bytes are not at their end
fault-more : (bytes : List ℕ) (at : ℕ) (fault : KeyFault) → FaultAt bytes at fault → drop at bytes ≡ [] → ⊥
fault-more bytes at (BadName place) (_, (rest, e, none)) end = let h : 60 ∷ rest ≡ [] = sym e ∙ end in cc
fault-more bytes at (NotAscii place) (_, (byte, rest, e, other)) end = let h : byte ∷ rest ≡ [] = sym e ∙ end in cc
fault-more bytes at Memory h end = h

-- two faults of one place are one
fault-same : (bytes : List ℕ) (at : ℕ) (fault other : KeyFault) → FaultAt bytes at fault
    → FaultAt bytes at other → fault ≡ other
fault-same bytes at (BadName p) (BadName q) (e, _) (f, _) = ap BadName (e ∙ sym f)
fault-same bytes at (BadName p) (NotAscii q) (_, bad) (_, other) = absurd (one_fault (drop at bytes) bad other)
fault-same bytes at (NotAscii p) (BadName q) (_, other) (_, bad) = absurd (one_fault (drop at bytes) bad other)
fault-same bytes at (NotAscii p) (NotAscii q) (e, _) (f, _) = ap NotAscii (e ∙ sym f)
fault-same bytes at Memory other h k = absurd h
fault-same bytes at fault Memory h k = absurd k

-- what a fault at the place that was read up to says of the whole
module _ (bytes : List ℕ) (keys : List Key) (at : ℕ) (read : Read bytes keys at) (fault : KeyFault)
    (told : FaultAt bytes at fault) where
  ends : first_key (drop at bytes) ≡ None
  ends = fault-first_key bytes at fault told

  fault-none : (others : List Key) → AreKeys others → spelled others ≢ bytes
  fault-none others os e = fault-more bytes at fault told (same_spelling bytes keys at read ends others os e).1

  pub fault-only_keys : (others : List Key) → AreKeys others → spelled others ≡ bytes
      → AnswersUnless Memory (Err fault) (Ok others)
  fault-only_keys others os e = absurd (fault-none others os e)

  pub fault-only_bad_name : (place : ℕ) → HasBadName bytes place
      → AnswersUnless {T = List Key} Memory (Err fault) (Err (BadName place))
  fault-only_bad_name place has =
      inr (ap Err (fault-same bytes at fault (BadName place) told
      (fault_place bytes keys at read BeginsBadName first_key-bad_name ends place has)))

  pub fault-only_not_ascii : (place : ℕ) → HasNotAscii bytes place
      → AnswersUnless {T = List Key} Memory (Err fault) (Err (NotAscii place))
  fault-only_not_ascii place has =
      inr (ap Err (fault-same bytes at fault (NotAscii place) told
      (fault_place bytes keys at read BeginsNotAscii first_key-not_ascii ends place has)))

-- what the end of the bytes says of the whole
module _ (bytes : List ℕ) (keys : List Key) (at : ℕ) (read : Read bytes keys at) (full : length bytes ≤ at) where
  nothing_left : drop at bytes ≡ []
  nothing_left = nil_from_length (drop at bytes) (length-drop at bytes ∙ omega arith)

  pub end-only_keys : (others : List Key) → AreKeys others → spelled others ≡ bytes
      → AnswersUnless Memory (Ok keys) (Ok others)
  end-only_keys others os e = inr (ap Ok (same_spelling bytes keys at read (ap first_key nothing_left) others os e).0)

  pub end-only_bad_name : (place : ℕ) → HasBadName bytes place → AnswersUnless Memory (Ok keys) (Err (BadName place))
  end-only_bad_name place has =
      absurd (fault-more bytes at (BadName place)
      (fault_place bytes keys at read BeginsBadName first_key-bad_name (ap first_key nothing_left) place has)
      nothing_left)

  pub end-only_not_ascii : (place : ℕ) → HasNotAscii bytes place → AnswersUnless Memory (Ok keys) (Err (NotAscii place))
  end-only_not_ascii place has =
      absurd (fault-more bytes at (NotAscii place)
      (fault_place bytes keys at read BeginsNotAscii first_key-not_ascii (ap first_key nothing_left) place has)
      nothing_left)
