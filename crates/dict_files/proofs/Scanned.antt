-- The places of the entries of a file, one line after another.
use Rattle.std.proofs.Common.{◌≡◌, ◌≤◌, ◌∙◌, ◌+◌, ℕ, Bool, true, false, Option, None, Some, List, [], ◌∷◌, ◌++◌, All}
use Rattle.std.proofs.Common.{length, take, drop, refl, sym, ap, subst, arith, encode_utf8_all, if◌then◌else◌}
use Rattle.std.proofs.Common.{get_or, length-append, append_assoc}
use Rattle.std.proofs.Math.Seq.{drop-append_seam, take-append_seam}
use Rattle.std.specs.List.{cons_option, filter, filter_map, position}
use Rattle.std.specs.Option.{option_map}
use Rattle.std.specs.Str.{IsUtf8, chars}
use Rattle.std.proofs.lemmas.Bool.{eqb-true, le-leb}
use Rattle.std.proofs.lemmas.List.{length-take-le, take-append-drop}
use Rattle.std.proofs.lemmas.List.Elements.{All-append, All-nil, All-push, filter_map-append}
use Rattle.std.proofs.lemmas.List.Quantifiers.{position-Some}
use Rattle.std.proofs.lemmas.Option.{some_pair_parts}
use Rattle.std.proofs.lemmas.Str.{IsCharBoundary-before_ascii, IsUtf8-take, encodes-chars}
use Rattle.exact_readers.specs.Cuts.{cut}
use Rattle.exact_readers.specs.CutLaws.{cut-position}
use Rattle.exact_readers.specs.LackLaws.{cut-bytes}
use Rattle.exact_readers.specs.Lines.{StandsAt}
use Rattle.skk_calls.specs.declared.part.Part.{Part}
use Rattle.skk_calls.specs.KeyLaws.{same_part_equal}
use Rattle.skk_calls.specs.Rows.{Row, same_part}
use Rattle.dict_format.specs.EntryRows.{HasKey, row_of_line, spelled_rows}
use Rattle.dict_format.specs.FileLines.{FileEntry}
use Rattle.dict_format.specs.Reading.{is_space}
use Rattle.dict_files.specs.declared.part_places.PartPlaces.{PartPlaces}
use Rattle.dict_files.specs.declared.place.Place.{Place}
use Rattle.dict_files.specs.FilePlaces.{IsEntry, line_at, piece_at, reading_at, row_at}
use Rattle.dict_files.specs.PlacesOfParts.{places_in}
use Rattle.dict_files.specs.Scanning.{AreOfFile, rows_in}

-- what stands in bytes is the piece there
piece_of : (front piece behind : List ℕ) → piece_at (front ++ (piece ++ behind)) (length front) (length piece) ≡ piece
piece_of front piece behind =
    let long = length-append front (piece ++ behind) in
    let rest = length-append piece behind in
    let within : length front + length piece ≤ length (front ++ (piece ++ behind)) = omega (arith, long, rest) in
    rw (le-leb (length front + length piece) (length (front ++ (piece ++ behind))) within)
    (grind (arith, drop-append_seam front (piece ++ behind), take-append_seam piece behind))

piece-is : (bytes piece : List ℕ) (start : ℕ) → StandsAt bytes start piece
    → piece_at bytes start (length piece) ≡ piece
piece-is bytes piece start (front, behind, split, long) = rw (split, sym long) (piece_of front piece behind)

-- the entry of a line adds the row that this spells to those of its part
row-added : (part other : Part) (read : Part → Place → Option Row) (place : Place) (spelled : Option Row)
    → read part place ≡ spelled → ((row : Row) → spelled ≡ Some row → row.key.part ≡ part) → (rows : List Row)
    → filter_map (read other) (if same_part part other then place ∷ [] else [])
    ++ filter (λ row. same_part row.key.part other) rows
    ≡ filter (λ row. same_part row.key.part other) (cons_option spelled rows)
row-added part other read place None is keyed rows = grind (arith, same_part_equal part other)
row-added part other read place (Some row) is keyed rows =
    let of : row.key.part ≡ part = keyed row refl in grind (arith, same_part_equal part other)

-- a line of a part that stands in the bytes, and the key of the row that it spells
module _ (bytes line : List ℕ) (start : ℕ) (part : Part) (stands : StandsAt bytes start line) (valid : IsUtf8 line)
    (keyed : (row : Row) → row_of_line part (chars line) ≡ Some row → HasKey part (chars line) row) where
  -- it is cut behind the reading of that row
  cut-behind : (row : Row) → row_of_line part (chars line) ≡ Some row
      → (rest : List ℕ) × (cut is_space line ≡ Some (encode_utf8_all row.key.reading, rest))
  cut-behind row e =
      let key = keyed row e in (
        encode_utf8_all key.rest,
        ap (cut is_space) (sym (encodes-chars line valid)) ∙ cut-bytes 0x20 (omega arith) (chars line)
            ∙ ap (option_map (λ parts. (encode_utf8_all parts.0, encode_utf8_all parts.1))) key.cut_is,
      )

  -- without a space it spells none
  none-spelled : position is_space line ≡ None → row_of_line part (chars line) ≡ None
  none-spelled nowhere = grind (arith, cut-behind, cut-position is_space line)

  -- so it is passed over
  pub entry-passed : (number : ℕ) (places : PartPlaces) (left : List FileEntry) → position is_space line ≡ None
      → AreOfFile bytes places (record { number = number; part = part; text = chars line } ∷ left)
      → AreOfFile bytes places left
  entry-passed number places left nowhere are other =
      record { entries = (are other).entries; rows = rw (none-spelled nowhere) at (are other).rows }

  module _ (at : ℕ) (found : position is_space line ≡ Some at) (within : at ≤ length line) where
    -- its entry, with the reading before the space
    abbrev here : Place
    here = record { start = start; reading = at; line = length line }

    line-is : line_at bytes here ≡ line
    line-is = piece-is bytes line start stands

    reading-is : reading_at bytes here ≡ take at line
    reading-is =
        let (front, behind, split, long) = stands in
        let parts = ap (λ l. l ++ behind) (sym (take-append-drop at line))
        ∙ append_assoc (take at line) (drop at line) behind in
        rw (length-take-le at line within) at
        (piece-is bytes (take at line) start
        (front, drop at line ++ behind, split ∙ ap (λ piece. front ++ piece) parts, long))

    readable : IsUtf8 (take at line)
    readable =
        let (low, space, none) = position-Some is_space line at 0 found in
        IsUtf8-take line at valid
        (IsCharBoundary-before_ascii line at low (omega (arith, eqb-true (get_or line at 0) 0x20 space)))

    row-is : row_at part bytes here ≡ row_of_line part (chars line)
    row-is = ap (λ bs. row_of_line part (chars bs)) line-is

    is-entry : IsEntry part bytes here
    is-entry = record {
      valid = rw line-is valid;
      readable = rw reading-is readable;
      keyed = λ row e.
          let spelled = sym row-is ∙ e in
          let (rest, cut_is) = cut-behind row spelled in
          let front = rw found at (cut-position is_space line) in
          let same = some_pair_parts (take at line) _ (drop (at + 1) line) rest (sym front ∙ cut_is) in
          ((keyed row spelled).part_is, reading-is ∙ same.0);
    }

    -- it comes with its place
    pub entry-added : (number : ℕ) (places after : PartPlaces) (left : List FileEntry)
        → ((other : Part) → places_in after other
        ≡ places_in places other ++ (if same_part part other then here ∷ [] else []))
        → AreOfFile bytes places (record { number = number; part = part; text = chars line } ∷ left)
        → AreOfFile bytes after left
    entry-added number places after left added are other =
        rw (added other) (record {
          entries = All-append (IsEntry other bytes) (places_in places other) _ (are other).entries
              (one (same_part part other) refl);
          rows =
              ap (λ rows. rows ++ rows_in other left) (filter_map-append (row_at other bytes) _ _)
              ∙ append_assoc (filter_map (row_at other bytes) (places_in places other)) _ _
              ∙ ap (λ rows. filter_map (row_at other bytes) (places_in places other) ++ rows)
              (row-added part other (λ p. row_at p bytes) here (row_of_line part (chars line)) row-is
              (λ row e. (keyed row e).part_is) (spelled_rows left))
              ∙ (are other).rows;
        })
      where
        one : (b : Bool) → same_part part other ≡ b → All (IsEntry other bytes) (if b then here ∷ [] else [])
        one false e = All-nil (IsEntry other bytes)
        one true e =
            let same = same_part_equal part other e in
            subst (λ p. All (IsEntry p bytes) (here ∷ [])) same
            (All-push (IsEntry part bytes) [] here (All-nil (IsEntry part bytes)) is-entry)
