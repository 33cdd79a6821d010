-- The definitions of `check` at small examples, each worked out by hand.
use Rattle.std.proofs.Common.{◌≡◌, ℕ, [], ◌∷◌, ◌++◌, refl, map, codes}
use Rattle.std.specs.Fmt.{digits}
use Rattle.skk_text.specs.declared.text_file.TextFault.TheVariants as texts
use Rattle.skk_calls.specs.declared.part.Part.{Part}
use Rattle.skk_calls.specs.declared.part.Part.TheVariants.{Nasi, Ari}
use Rattle.skk_calls.specs.Rows.{Row}
use Rattle.dict_format.specs.declared.file.BadLine.{BadLine}
use Rattle.dict_format.specs.declared.file.FileFault.TheVariants as files
use Rattle.dict_format.specs.declared.reason.LineReason.{LineReason}
use Rattle.dict_format.specs.declared.reason.LineReason.TheVariants.{LongLine, NoSpace, BadReading, LongReading}
use Rattle.dict_format.specs.declared.reason.LineReason.TheVariants.{OkuriKey, NoSlash, Block, LongCandidate, Empty}
use Rattle.dict_format.specs.declared.reason.LineReason.TheVariants.{Twice}
use Rattle.skk_top.specs.Dictionaries.{fault_of_file}
use Rattle.skk_top.specs.CheckedFiles.{reason_name, bad_line, count_of, counts_line, checked_text}
use Rattle.run_endings.specs.declared.fault.RunFault.TheVariants.{Refused, Memory}
use Rattle.run_endings.specs.declared.run_file.Flaw.TheVariants.{TooLong, Byte}
use Rattle.run_endings.specs.declared.run_file.RunFile.TheVariants.{Dictionary}

-- a row of a part, and a bad line
abbrev row : Part → Row
row part = record { key = record { part = part; reading = [] }; cands = []; blocks = []; hides = []; stamp = 0 }

abbrev bad : ℕ → LineReason → BadLine
bad line reason = record { line = line; reason = reason }

reason_names : map reason_name
    (LongLine ∷ NoSpace ∷ BadReading ∷ LongReading ∷ OkuriKey ∷ NoSlash ∷ Block ∷ LongCandidate ∷ Empty ∷ Twice ∷ [])
    ≡ codes "LongLine" ∷ codes "NoSpace" ∷ codes "BadReading" ∷ codes "LongReading" ∷ codes "OkuriKey" ∷ codes "NoSlash"
    ∷ codes "Block" ∷ codes "LongCandidate" ∷ codes "Empty" ∷ codes "Twice" ∷ []
reason_names = refl

a_bad_line : bad_line (bad 1205 NoSlash) ≡ codes "line 1205 NoSlash" ++ 10 ∷ []
unfolding digits
a_bad_line = refl

-- the rows of each part, of three and one
rows_counted : map (λ part. count_of part (row Nasi ∷ row Ari ∷ row Nasi ∷ row Nasi ∷ [])) (Nasi ∷ Ari ∷ [])
    ≡ 3 ∷ 1 ∷ []
rows_counted = refl

a_counts_line : counts_line
    (record { book = row Nasi ∷ row Ari ∷ row Nasi ∷ []; bad = bad 9 Empty ∷ bad 8 Empty ∷ bad 7 Empty ∷ [] })
    ≡ codes "okuri-ari 1 okuri-nasi 2 bad 3" ++ 10 ∷ []
unfolding digits
a_counts_line = refl

-- a good line and a bad one; two bad ones in their order; and nothing at all
checked_texts : map checked_text (record { book = row Nasi ∷ []; bad = bad 5 NoSlash ∷ [] }
    ∷ record { book = []; bad = bad 2 Twice ∷ bad 11 Block ∷ [] } ∷ record { book = []; bad = [] } ∷ [])
    ≡ (codes "line 5 NoSlash" ++ 10 ∷ codes "okuri-ari 0 okuri-nasi 1 bad 1" ++ 10 ∷ [])
    ∷ (codes "line 2 Twice" ++ 10 ∷ codes "line 11 Block" ++ 10 ∷ codes "okuri-ari 0 okuri-nasi 0 bad 2" ++ 10 ∷ [])
    ∷ (codes "okuri-ari 0 okuri-nasi 0 bad 0" ++ 10 ∷ []) ∷ []
unfolding digits
checked_texts = refl

-- why a dictionary is refused: its number is told, and the byte up to which it is UTF-8
faults_of_dictionaries :
    map (fault_of_file 3) (files.NoText (texts.TooLong 9) ∷ files.NoText (texts.NotUtf8 7) ∷ files.Memory ∷ [])
    ≡ Refused (Dictionary 3) TooLong ∷ Refused (Dictionary 3) (Byte 7) ∷ Memory ∷ []
faults_of_dictionaries = refl
