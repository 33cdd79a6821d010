-- The keys of the rows that are listed.
use Rattle.std.proofs.Common.{◌≡◌, ℕ, Bool, true, false, not, ◌||◌, if◌then◌else◌, List, [], ◌∷◌, ◌++◌}
use Rattle.std.proofs.Common.{sym, ap, ◌∙◌, arith}
use Rattle.std.proofs.lemmas.Bool.{not-true}
use Rattle.std.proofs.lemmas.List.Folds.{list_any-append}
use Rattle.skk_calls.specs.KeyLaws.{same_key_equal, same_other}
use Rattle.skk_calls.specs.declared.part.Part.{Part}
use Rattle.skk_calls.specs.declared.part.Part.TheVariants.{Nasi, Ari}
use Rattle.skk_calls.specs.Rows.{Row, RowKey, same_text, same_part, same_key, has_text}
use Rattle.word_sets.specs.FirstLaws.{or_none, texts_fold_new}
use Rattle.word_sets.specs.Firsts.{with_new}
use Rattle.dict_format.specs.FileBuilding.{KnowsKeys, known_in, knows}
use Rattle.dict_format.specs.FileLines.{has_key}
use Rattle.dict_format.specs.ListedLaws.{keys-with}
use Rattle.dict_format.specs.declared.readings.Readings.{Readings}

-- a row more
key-more : (rows : List Row) (row : Row) (key : RowKey)
    → has_key (rows ++ row ∷ []) key ≡ (has_key rows key || same_key row.key key)
key-more rows row key =
    list_any-append (λ other. same_key other.key key) rows (row ∷ [])
    ∙ ap (λ b. has_key rows key || b) (or_none (same_key row.key key))

-- a reading more, where it was not among them
text-added : (texts : List (List ℕ)) (text other : List ℕ)
    → has_text (with_new (λ t. t) texts text) other ≡ (has_text texts other || same_text text other)
text-added texts text other =
    texts_fold_new texts (text ∷ []) other
    ∙ ap (λ b. has_text texts other || b) (or_none (same_text other text) ∙ same_other other text)

-- the part beside a part
abbrev pub other_part : Part → Part
other_part Nasi = Ari
other_part Ari = Nasi

-- what is known behind a reading that was added to those of its part
pub knows-added : (part : Part) (before after : Readings) (key : RowKey) → key.part ≡ part
    → ((other : Part) → (let known = known_in before other in
    known_in after other ≡ (if same_part part other then with_new (λ text. text) known key.reading else known)))
    → (other : RowKey) → knows after other ≡ (knows before other || same_key key other)
knows-added part before after key is added other =
    grind (arith, added other.part, text-added (known_in before other.part) key.reading other.reading)

-- what is known behind the key of a line: it was a new one where no row has it
module _ (rows : List Row) (before after : Readings) (key : RowKey) (is_new : Bool) (knew : KnowsKeys rows before)
    (tells : is_new ≡ not (knows before key))
    (added : (other : RowKey) → knows after other ≡ (knows before other || same_key key other)) where
  -- a new one comes with its row
  pub knows-new : (row : Row) → row.key ≡ key → is_new ≡ true → KnowsKeys (rows ++ row ∷ []) after
  knows-new row is new =
      let none : has_key rows row.key ≡ false =
      ap (has_key rows) is ∙ sym (knew.known key) ∙ not-true (knows before key) (sym tells ∙ new) in
      record {
        differ = keys-with rows row knew.differ none;
        known =
            λ other. added other ∙ ap (λ b. b || same_key key other) (knew.known other)
            ∙ ap (λ k. has_key rows other || same_key k other) (sym is) ∙ sym (key-more rows row other);
      }

  -- any other changes nothing
  pub knows-again : is_new ≡ false → KnowsKeys rows after
  knows-again old = record {
    differ = knew.differ;
    known =
        λ other. grind (arith, added other, knew.known other, same_key_equal key other, knew.known key, tells);
  }
