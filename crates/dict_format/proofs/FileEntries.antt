-- The entries of a file, one after another.
use Rattle.std.proofs.Common.{◌≡◌, ◌≤◌, ◌∙◌, sym, ap, subst, ℕ, List, [], ◌∷◌, ◌++◌}
use Rattle.std.proofs.Common.{length, Result, Ok, Err, IfOk, IfErr, refl, arith, inl, inr}
use Rattle.std.proofs.lemmas.Bool.{cases_Bool}
use Rattle.std.proofs.lemmas.List.{append_assoc, append-nil}
use Rattle.std.specs.Str.{IsUtf8}
use Rattle.skk_text.specs.Results.{AnswersUnless}
use Rattle.skk_text.specs.declared.text_file.TextFault.{TextFault}
use Rattle.skk_calls.specs.Rows.{Row}
use Rattle.dict_format.specs.declared.file.FileFault.{FileFault}
use Rattle.dict_format.specs.declared.file.FileFault.TheVariants.{Memory, NoText}
use Rattle.dict_format.specs.declared.file.Listed.{Listed}
use Rattle.dict_format.specs.declared.reason.LineReason.{LineReason}
use Rattle.dict_format.specs.declared.reason.LineReason.TheVariants.{Twice}
use Rattle.dict_format.specs.FileBuilding.{listed_with, refused_with}
use Rattle.dict_format.specs.FileLines.{FileEntry, Takes, TakeAll, has_key, Lists, file_limit, none_listed, entries_of}
use Rattle.dict_format.specs.LeftLines.{LeftLines, entries_left}
use Rattle.dict_format.specs.Lines.{SpellsRow}
use Rattle.dict_format.specs.Reading.{line_reading}
use Rattle.dict_format.proofs.LineReading.{row_or_reason, line_reading-row, line_reading-reason}

-- What an entry takes

-- an entry that spells a row
pub row-taken : (before : Listed) (entry : FileEntry) (row : Row) → SpellsRow entry.part entry.text row
    → Takes before entry (listed_with before entry.number row)
row-taken before entry row spells =
    elim (cases_Bool (has_key before.book row.key)) [
      | inl again ↦ inr (Twice, inr (refl, row, spells, again), rw again refl)
      | inr new ↦ inl (row, (spells, new), rw new refl)
    ]

-- what was listed before an entry, with what is read of it
abbrev pub next_of : Listed → FileEntry → Result Row LineReason → Listed
next_of before entry (Ok row) = listed_with before entry.number row
next_of before entry (Err reason) = refused_with before entry.number reason

-- an entry takes what was listed to that alone
pub takes-is : (before : Listed) (entry : FileEntry) (after : Listed) → Takes before entry after
    → after ≡ next_of before entry (line_reading entry.part entry.text)
takes-is before entry after (inl (row, (spells, new), is)) =
    grind (arith, line_reading-row entry.part entry.text row spells)
takes-is before entry after (inr (reason, inl first, is)) =
    grind (arith, line_reading-reason entry.part entry.text reason first)
takes-is before entry after (inr (reason, inr (twice, row, spells, again), is)) =
    grind (arith, line_reading-row entry.part entry.text row spells)

-- so do all entries
pub all-once : (entries : List FileEntry) (before after other : Listed) → TakeAll before entries after
    → TakeAll before entries other → after ≡ other
all-once [] before after other takes also = takes ∙ sym also
all-once (entry ∷ entries) before after other takes also =
    let same = takes-is before entry takes.0 takes.1 ∙ sym (takes-is before entry also.0 also.1) in
    all-once entries also.0 after other (subst (λ (next : Listed). TakeAll next entries after) same takes.2) also.2

-- an entry takes what was listed to something, and so do all entries
some-taken : (before : Listed) (entry : FileEntry) → (after : Listed) × Takes before entry after
some-taken before entry =
    elim (row_or_reason entry.part entry.text) [
      | inl spelled ↦ (listed_with before entry.number spelled.0, row-taken before entry spelled.0 spelled.1)
      | inr first ↦ (refused_with before entry.number first.0, inr (first.0, inl first.1, refl))
    ]

all-taken : (entries : List FileEntry) (before : Listed) → (after : Listed) × TakeAll before entries after
all-taken [] before = (before, refl)
all-taken (entry ∷ entries) before =
    let one = some-taken before entry in
    let more = all-taken entries one.0 in
    (more.0, (one.0, one.1, more.1))

-- entries behind others
all-behind : (entries more : List FileEntry) (before between after : Listed) → TakeAll before entries between
    → TakeAll between more after → TakeAll before (entries ++ more) after
all-behind [] more before between after takes also = subst (λ (listed : Listed). TakeAll listed more after) takes also
all-behind (entry ∷ entries) more before between after takes also =
    (takes.0, takes.1, all-behind entries more takes.0 between after takes.2 also)

-- How far a file is read

-- what is listed is that to which the entries before those that are left came
pub record IsListed (bytes : List ℕ) (left : LeftLines) (listed : Listed) : Type 0 where
  pub before : List FileEntry
  pub parts : entries_of bytes ≡ before ++ entries_left left
  pub taken : TakeAll none_listed before listed

-- before any is read
pub none-listed : (bytes : List ℕ) (left : LeftLines) → entries_left left ≡ entries_of bytes
    → IsListed bytes left none_listed
none-listed bytes left all = record { before = []; parts = sym all; taken = refl }

-- behind those of a line
pub line-listed : (bytes : List ℕ) (left next : LeftLines) (entries : List FileEntry) (listed more : Listed)
    → IsListed bytes left listed → entries_left left ≡ entries ++ entries_left next → TakeAll listed entries more
    → IsListed bytes next more
line-listed bytes left next entries listed more so_far cut takes = record {
  before = so_far.before ++ entries;
  parts =
      so_far.parts ∙ ap (λ later. so_far.before ++ later) cut
      ∙ sym (append_assoc so_far.before entries (entries_left next));
  taken = all-behind so_far.before entries none_listed listed more so_far.taken takes;
}

-- all of it
pub all-listed : (bytes : List ℕ) (left : LeftLines) (listed : Listed) → IsListed bytes left listed
    → entries_left left ≡ [] → TakeAll none_listed (entries_of bytes) listed
all-listed bytes left listed so_far none =
    subst (λ (entries : List FileEntry). TakeAll none_listed entries listed)
    (sym (so_far.parts ∙ ap (λ later. so_far.before ++ later) none ∙ append-nil so_far.before)) so_far.taken

-- What a file lists

-- one thing at most
pub listed-once : (bytes : List ℕ) (listed other : Listed) → Lists bytes listed → Lists bytes other → listed ≡ other
listed-once bytes listed other lists also =
    all-once (entries_of bytes) none_listed listed other lists.entries also.entries

-- and something, where it is not too long and is UTF-8
pub listed-some : (bytes : List ℕ) → length bytes ≤ file_limit → IsUtf8 bytes → (listed : Listed) × Lists bytes listed
listed-some bytes not_long valid =
    let all = all-taken (entries_of bytes) none_listed in
    (all.0, record { not_long = not_long; valid = valid; entries = all.1 })

-- what is answered for a file that is not too long and is UTF-8
pub only-listed : (bytes text : List ℕ) (answer : Result Listed FileFault) → text ≡ bytes
    → IfOk answer (TakeAll none_listed (entries_of text)) → IfErr answer (λ fault. fault ≡ Memory)
    → (listed : Listed) → Lists bytes listed → AnswersUnless Memory answer (Ok listed)
only-listed bytes text (Ok found) same takes memory listed lists =
    inr (ap Ok (all-once (entries_of bytes) none_listed found listed
    (subst (λ (bs : List ℕ). TakeAll none_listed (entries_of bs) found) same takes) lists.entries))
only-listed bytes text (Err fault) same takes memory listed lists = inl (ap Err memory)

-- an answer whose only fault is the want of memory tells no fault of a text
pub memory-alone : (answer : Result Listed FileFault) (fault : TextFault)
    → IfErr answer (λ told. told ≡ Memory) → answer ≡ Err (NoText fault) → ⊥
memory-alone answer fault memory told = grind arith
