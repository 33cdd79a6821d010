-- How a row is written on its one canonical line.
use Rattle.std.specs.Prelude.{ℕ, Bool, ◌&&◌, ◌||◌, ◌==◌, not, nat_eq, nat_le, if◌then◌else◌, List, [], ◌∷◌, ◌++◌, codes}
use Rattle.std.specs.Prelude.{map}
use Rattle.std.specs.List.{flat_map, list_any, list_all, starts_with}
use Rattle.skk_text.specs.Lists.{is_empty}
use Rattle.skk_text.specs.Text.{byte_len}
use Rattle.skk_calls.specs.Rows.{Cand, Block, Row, is_word}

-- a character as it stands in a string, where what an item cannot hold is escaped
abbrev pub char_in_string : ℕ → List ℕ
char_in_string c =
    if c == 0x2F then codes "\\057"
    else if c == 0x3B then codes "\\073"
    else if c == 0x22 then codes "\\\""
    else if c == 0x5C then codes "\\\\"
    else if c == 13 then codes "\\r"
    else if c == 10 then codes "\\n"
    else c ∷ []

-- a text as a string in double quotes
abbrev pub quoted : List ℕ → List ℕ
quoted text = 0x22 ∷ flat_map char_in_string text ++ 0x22 ∷ []

-- a character stands in no plain word: it is `/`, `;`, `"`, `\`, CR or LF
abbrev pub is_special : ℕ → Bool
is_special c = c == 0x2F || (c == 0x3B || (c == 0x22 || (c == 0x5C || (c == 13 || c == 10))))

-- a text begins as no plain word does: with `[`, `]`, `(concat ` or `(skk-ignore-dic-word `
abbrev pub begins_form : List ℕ → Bool
begins_form word =
    starts_with nat_eq word (codes "[") || (starts_with nat_eq word (codes "]")
    || (starts_with nat_eq word (codes "(concat ") || starts_with nat_eq word (codes "(skk-ignore-dic-word ")))

-- a word of a candidate or a block as it is written, which is quoted where it could not be read as it is
abbrev pub written_word : List ℕ → List ℕ
written_word word =
    if list_any is_special word || begins_form word then codes "(concat " ++ quoted word ++ codes ")" else word

-- a note as it is written: behind its `;`, where there is one
abbrev pub written_note : List ℕ → List ℕ
written_note [] = []
written_note (c ∷ note) = 0x3B ∷ c ∷ note

-- a candidate as an item
abbrev pub item : Cand → List ℕ
item cand = written_word cand.word ++ written_note cand.note

-- an item, or a word of a block, with the slash that ends it
abbrev pub with_slash : List ℕ → List ℕ
with_slash text = text ++ 0x2F ∷ []

-- a block as an item: its okurigana, its words, and the bracket that closes it
abbrev pub written_block : Block → List ℕ
written_block block =
    0x5B ∷ with_slash block.okuri ++ flat_map (λ word. with_slash (written_word word)) block.words ++ 0x5D ∷ []

-- the items of hidden words: one mark with all of them, where there are any
abbrev pub mark_items : List (List ℕ) → List (List ℕ)
mark_items [] = []
mark_items (word ∷ words) =
    (codes "(skk-ignore-dic-word" ++ flat_map (λ w. 0x20 ∷ quoted w) (word ∷ words) ++ codes ")") ∷ []

-- the items of a row: its candidates, its blocks and its mark
abbrev pub items : Row → List (List ℕ)
items row = map item row.cands ++ map written_block row.blocks ++ mark_items row.hides

-- the line of a row: the reading, a space, a slash, and each item with its slash
abbrev pub canonical : Row → List ℕ
canonical row = row.key.reading ++ 0x20 ∷ 0x2F ∷ flat_map with_slash (items row)

-- the most bytes of a line
abbrev pub line_limit : ℕ
line_limit = 65535

-- a row can be written on a line: it says something, its words are words, and its line is not too long
abbrev pub is_good : Row → Bool
is_good row =
    (not (is_empty row.cands) || (not (is_empty row.blocks) || not (is_empty row.hides)))
    && (list_all is_word row.hides && (list_all (λ block. list_all is_word block.words) row.blocks
    && nat_le (byte_len (canonical row)) line_limit))
