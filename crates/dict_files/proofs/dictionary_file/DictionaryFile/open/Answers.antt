use Rattle.std.proofs.Common.{◌≡◌, ℕ, List, Ok, Err, ap, arith, inl, refl}
use Rattle.skk_text.specs.Results.{AnswersUnless}
use Rattle.skk_text.specs.TextFiles.{IsTextFault}
use Rattle.skk_text.specs.declared.text_file.TextFault.{TextFault}
use Rattle.skk_text.specs.declared.text_file.TextFault.TheVariants.{TooLong, NotUtf8}
use Rattle.skk_calls.specs.Rows.{Row}
use Rattle.dict_format.specs.FileLines.{ListsRows, file_limit}
use Rattle.dict_format.specs.declared.file.FileFault.{FileFault}
use Rattle.dict_format.specs.declared.file.FileFault.TheVariants.{Memory, NoText}
use Rattle.dict_files.proofs.dictionary_file.DictionaryFile.open.Goals as goal

-- what lists something is a text
no_fault : (bytes : List ℕ) (rows : List Row) → ListsRows bytes rows → (fault : TextFault)
    → IsTextFault file_limit bytes fault → ⊥
no_fault bytes rows (listed, lists, is) (TooLong count) (long, same) = omega (arith, lists.not_long, long)
no_fault bytes rows (listed, lists, is) (NotUtf8 at) (short, not_utf8, same) = not_utf8 lists.valid

-- so memory alone is wanting
only : (bytes : List ℕ) (rows : List Row) → ListsRows bytes rows → (fault : FileFault)
    → ((told : TextFault) → fault ≡ NoText told → IsTextFault file_limit bytes told)
    → AnswersUnless {T = List Row} Memory (Err fault) (Ok rows)
only bytes rows lists Memory tells = inl refl
only bytes rows lists (NoText told) tells = absurd (no_fault bytes rows lists told (tells told refl))

pub returns-in-Err-clause-only : goal.returns-in-Err-clause-only
returns-in-Err-clause-only c rows lists =
    only c.args.bytes rows lists c.in-Err.fault
    (λ told e. rw c.as_slice.ensures at ((c.in-Err.ensures.no_text told).0 (ap Err e)))
