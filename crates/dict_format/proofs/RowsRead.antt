-- What is read of a line makes a row.
use Rattle.std.proofs.Common.{◌≡◌, arith, ℕ, true, not, ◌==◌, ◌||◌, inl, inr, Option, None, Some}
use Rattle.std.proofs.Common.{Ok, List, [], ◌∷◌, refl, sym, ap, ◌∙◌}
use Rattle.std.specs.List.{flat_map, filter, list_all}
use Rattle.std.specs.Option.{unwrap_or}
use Rattle.std.proofs.lemmas.List.Folds.{list_all-append}
use Rattle.skk_text.specs.PairsLaws.{list_all-kept}
use Rattle.skk_calls.specs.declared.part.Part.{Part}
use Rattle.skk_calls.specs.declared.part.Part.TheVariants.{Nasi, Ari}
use Rattle.skk_calls.specs.Rows.{Row, RowKey, is_row_key, is_note, is_note_char, is_row, fits_blocks, is_okuri}
use Rattle.exact_readers.specs.Cuts.{cut}
use Rattle.exact_readers.specs.CutLaws.{up_to-exact}
use Rattle.exact_readers.specs.Formats.{all}
use Rattle.exact_readers.specs.ManyLaws.{all-are}
use Rattle.dict_format.specs.declared.reason.LineReason.TheVariants.{NoSlash}
use Rattle.dict_format.specs.EntryRows.{HasKey}
use Rattle.dict_format.specs.Lines.{HasTexts, SpellsRow}
use Rattle.dict_format.specs.Items.{Item, SpellsItems, is_semicolon, note_of_text, item_format}
use Rattle.dict_format.specs.Items.Item.{candidate, block, mark}
use Rattle.exact_readers.specs.Lacking.{lacks}
use Rattle.dict_format.specs.Reading.{texts_at, or_reason, fit_items_at}
use Rattle.dict_format.specs.RowOfItems.{item_fits, block_in, has_word, joined_blocks, blocks_of_items, row_of_items}
use Rattle.dict_format.proofs.Exactness.{item_exact}
use Rattle.dict_format.proofs.LineTexts.{body-cut, texts-sound, texts_lack}
use Rattle.dict_format.proofs.RowParts.{has_note, row_of_items-valid}

-- Notes

-- a text without slashes has a note that may stand in an item
note_chars : (text : List ℕ) → lacks 0x2F text ≡ true → is_note (filter (λ c. not (c == 13 || c == 10)) text) ≡ true
note_chars text none =
    list_all-kept (λ c. not (c == 0x2F)) (λ c. not (c == 13 || c == 10)) is_note_char (λ c slash end. grind arith)
    text none

pub note_valid : (text : List ℕ) → lacks 0x2F text ≡ true → is_note (note_of_text text) ≡ true
note_valid text none = by (cut is_semicolon text) refl
  where
    by : (o : Option (List ℕ × List ℕ)) → cut is_semicolon text ≡ o
        → is_note (filter (λ c. not (c == 13 || c == 10)) (unwrap_or o (text, [])).1) ≡ true
    by None e = refl
    by (Some (front, rest)) e =
        let is = (up_to-exact is_semicolon).sound text front rest e in
        note_chars rest (grind (arith, list_all-append (λ c. not (c == 0x2F)) is.piece rest, is.tokens_are))

item_noted : (part : Part) (item : Item) (texts : List (List ℕ)) → (item_format part).Spells item texts
    → list_all (lacks 0x2F) texts ≡ true → has_note item ≡ true
item_noted part (block okuri words) texts is none = refl
item_noted part (mark words) texts is none = refl
item_noted part (candidate word note) texts (inl (text, (closed, not_marked, says, same), one)) none =
    ap is_note same ∙ note_valid text (grind (arith, one))
item_noted part (candidate word note) texts (inr (parts, spelled, wrong)) none = cc

items_noted : (part : Part) (items : List Item) (texts : List (List ℕ)) → SpellsItems part texts items
    → list_all (lacks 0x2F) texts ≡ true → list_all has_note items ≡ true
items_noted part [] texts is none = refl
items_noted part (item ∷ items) texts (front, back, spelled, more, is) none =
    let parts = list_all-append (lacks 0x2F) front back in
    grind (arith, parts, item_noted part item front spelled, items_noted part items back more)

-- Blocks

-- an item of the okuri-nasi part is no block
no_block : (item : Item) (texts : List (List ℕ)) → (item_format Nasi).Spells item texts → block_in item ≡ []
no_block (candidate word note) texts is = refl
no_block (mark words) texts is = refl
no_block (block okuri words) texts (inl (text, never, one)) = absurd never
no_block (block okuri words) texts (inr (parts, (front, back, (text, opened, one), rest, is), value)) = cc

no_blocks : (items : List Item) (texts : List (List ℕ)) → SpellsItems Nasi texts items → flat_map block_in items ≡ []
no_blocks [] texts is = refl
no_blocks (item ∷ items) texts (front, back, spelled, more, is) =
    rw (no_block item front spelled) (no_blocks items back more)

fits_part : (part : Part) (items : List Item) (texts : List (List ℕ)) → SpellsItems part texts items
    → fits_blocks part (blocks_of_items items) ≡ true
fits_part Ari items texts is = refl
fits_part Nasi items texts is =
    ap (λ bs. fits_blocks Nasi (filter (λ b. is_okuri b.okuri) (joined_blocks (filter has_word bs))))
    (no_blocks items texts is)

-- Rows

-- items that texts spell make a row, where they fit
made-valid : (part : Part) (body : List ℕ) (texts : List (List ℕ)) (key : RowKey) (items : List Item)
    → is_row_key key ≡ true → key.part ≡ part → HasTexts body texts → SpellsItems part texts items
    → list_all item_fits items ≡ true → is_row (row_of_items key items) ≡ true
made-valid part body texts key items valid of has is fit =
    row_of_items-valid key items valid fit (items_noted part items texts is (texts_lack texts has.behind has.spelled))
    (ap (λ p. fits_blocks p (blocks_of_items items)) of ∙ fits_part part items texts is)

-- so what is read of the parts of a line makes one
fit-items : (part : Part) (texts : List (List ℕ)) (items : List Item) → fit_items_at part texts ≡ Ok items
    → (all (item_format part) texts ≡ Some items) × (list_all item_fits items ≡ true)
unfolding fit_items_at
fit-items part texts items e = grind arith

texts-read : (found : Option (List (List ℕ))) (texts : List (List ℕ)) → or_reason NoSlash found ≡ Ok texts
    → found ≡ Some texts
texts-read found texts e = grind arith

pub row_read : (part : Part) (body : List ℕ) (texts : List (List ℕ)) (key : RowKey) (items : List Item)
    → is_row_key key ≡ true → key.part ≡ part → or_reason NoSlash (texts_at body) ≡ Ok texts
    → fit_items_at part texts ≡ Ok items → is_row (row_of_items key items) ≡ true
row_read part body texts key items valid of between fitted =
    let has = texts-sound body texts (texts-read (texts_at body) texts between) in
    let (read, fit) = fit-items part texts items fitted in
    made-valid part body texts key items valid of has (rw read at (all-are (item_format part) (item_exact part) texts))
    fit

-- and so does what a line spells
pub spelled-valid : (part : Part) (line : List ℕ) (row : Row) → SpellsRow part line row → is_row row ≡ true
spelled-valid part line row is =
    rw is.row_is
    (made-valid part is.body is.texts (record { part = part; reading = is.reading }) is.items is.valid refl is.has_texts
    is.has_items is.fit)

-- with the key of the line
pub spelled-key : (part : Part) (line : List ℕ) (row : Row) → SpellsRow part line row → HasKey part line row
spelled-key part line row is =
    let found = body-cut line is.reading is.body is.has_body in
    record {
      part_is = ap (λ (made : Row). made.key.part) is.row_is;
      rest = found.0;
      cut_is = found.1 ∙ ap (λ (made : Row). Some (made.key.reading, found.0)) (sym is.row_is);
    }
