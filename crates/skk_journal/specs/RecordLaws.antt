-- Laws of the bytes of records, and of what the gate of an addition makes of a file.
use Rattle.std.specs.Prelude.{◌≡◌, ◌≢◌, ◌⊎◌, ℕ, ◌+◌, List, [], ◌∷◌, ◌++◌, length}
use Rattle.std.proofs.Common.{inl, inr, refl, sym, ◌∙◌, ap, subst, arith, append_assoc, length-append}
use Rattle.std.proofs.lemmas.Bool.{cases_eq}
use Rattle.std.proofs.lemmas.List.{append-nil}
use Rattle.std.proofs.lemmas.List.Elements.{All-append, All-cons, All-nil}
use Rattle.std.specs.Int.{w32, w64}
use Rattle.exact_readers.specs.Numbers.{number_bytes}
use Rattle.exact_readers.specs.NumberLaws.{told_32}
use Rattle.skk_journal.specs.Records.{body, record_bytes, need, framed, behind_gate, mark, front}
use Rattle.skk_journal.specs.Records.{IsSized, IsGroup, end_of, HasContents, HasAddition}
use Rattle.skk_journal.specs.Contents.{Contents, with_added}
use Rattle.skk_journal.specs.Gating.{IsStaged}

-- a record has five bytes more than its payload
pub length-record_bytes : (payload : List ℕ) → length (record_bytes payload) ≡ 5 + length payload
length-record_bytes payload =
    omega (arith, length-append (number_bytes w32 (length payload)) payload, told_32.long (length payload))

-- a record needs the bytes of a gate, of a size and of its payload
pub need_is : (payload : List ℕ) → need payload ≡ 5 + length payload
unfolding need
need_is payload = length-record_bytes payload

-- the bytes of records and of others behind them
pub framed-append : (records added : List (List ℕ)) → framed (records ++ added) ≡ framed records ++ framed added
framed-append [] added = refl
framed-append (payload ∷ records) added =
    ap (λ (l : List ℕ). record_bytes payload ++ l) (framed-append records added)
    ∙ sym (append_assoc (record_bytes payload) (framed records) (framed added))

-- behind an open gate, the bytes of a group are its records and a closed gate
pub group_framed : (added : List (List ℕ)) (bytes : List ℕ) → IsGroup added bytes
    → 1 ∷ bytes ≡ framed added ++ 0 ∷ []
group_framed [] bytes group = absurd (omega (arith, group.addition.some))
group_framed (payload ∷ others) bytes group = ap (λ (l : List ℕ). 1 ∷ l) group.is

-- the end goes on by the bytes of a group
pub end_of-added : (records added : List (List ℕ)) (bytes : List ℕ) → IsGroup added bytes
    → end_of (records ++ added) ≡ end_of records + length bytes
end_of-added records added bytes group =
    omega (
      arith,
      ap length (framed-append records added),
      length-append (framed records) (framed added),
      ap length (group_framed added bytes group),
      length-append (framed added) (0 ∷ []),
    )

-- one record is a group
pub group_of_one : (payload bytes : List ℕ) → IsSized payload → bytes ≡ body payload ++ 0 ∷ []
    → IsGroup (payload ∷ []) bytes
group_of_one payload bytes sized is = record {
  addition = record { some = omega arith; sized = All-cons IsSized payload [] sized (All-nil IsSized) };
  is = is ∙ ap (λ (l : List ℕ). l ++ 0 ∷ []) (sym (append-nil (body payload)));
}

-- the front of a file with more records
pub front-append : (generation : ℕ) (contents : Contents) (added : List (List ℕ)) (rest : List ℕ)
    → front generation contents ++ (framed added ++ rest) ≡ front generation (with_added contents added) ++ rest
front-append generation contents added rest =
    let bytes = number_bytes w64 generation in
    let records = contents.records in
    let inner : (bytes ++ framed records) ++ (framed added ++ rest) ≡ (bytes ++ framed (records ++ added)) ++ rest =
    append_assoc bytes (framed records) (framed added ++ rest)
    ∙ ap (λ (l : List ℕ). bytes ++ l) (sym (append_assoc (framed records) (framed added) rest)
    ∙ ap (λ (l : List ℕ). l ++ rest) (sym (framed-append records added)))
    ∙ sym (append_assoc bytes (framed (records ++ added)) rest) in
    ap (λ (l : List ℕ). 1 ∷ (mark contents.version ++ l)) inner

module _ (newest generation : ℕ) (contents : Contents) where
  -- with a closed gate the added records do not count
  pub gated_shut : (added : List (List ℕ)) (gate : ℕ) (file : List ℕ) → gate ≢ 1
      → HasAddition newest generation contents added gate file → HasContents newest generation contents file
  gated_shut added gate file shut gated = record {
    gate = gate;
    rest = behind_gate added ++ 0 ∷ gated.rest;
    is = gated.is;
    right = gated.right;
    told = gated.told;
    sized = gated.sized;
    closed = shut;
  }

  -- with an open gate the added records count
  pub gated_open : (added : List (List ℕ)) (file : List ℕ) → HasAddition newest generation contents added 1 file
      → HasContents newest generation (with_added contents added) file
  gated_open [] file gated = absurd (omega (arith, gated.addition.some))
  gated_open (first ∷ others) file gated = record {
    gate = 0;
    rest = gated.rest;
    is = gated.is ∙ front-append generation contents (first ∷ others) (0 ∷ gated.rest);
    right = gated.right;
    told = gated.told;
    sized = All-append IsSized contents.records (first ∷ others) gated.sized gated.addition.sized;
    closed = λ same. omega (arith, same);
  }

  -- records in doubt count or they do not
  pub staged_either : (added : List (List ℕ)) (file : List ℕ) → IsStaged newest generation contents added file
      → HasContents newest generation contents file
      ⊎ HasContents newest generation (with_added contents added) file
  staged_either added file from = elim (cases_eq from.0 1) [
    | inl is_open ↦
        inr (gated_open added file
        (subst (λ (gate : ℕ). HasAddition newest generation contents added gate file) is_open from.1))
    | inr shut ↦ inl (gated_shut added from.0 file shut from.1)
  ]
