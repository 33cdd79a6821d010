-- What a run of `expr` leaves.
use Rattle.std.specs.Prelude.{◌≡◌, ◌≤◌, ◌⊎◌, ⊤, ℕ, None, Some, List, [], ◌∷◌, map, encode_utf8_all}
use Rattle.std.specs.Option.{option_map}
use Rattle.skk_outside.specs.Moved.{Told, MovedShelf, MovedSink}
use Rattle.skk_text.specs.Text.{byte_len}
use Rattle.skk_calls.specs.Dictionary.{line_length}
use Rattle.skk_calls.specs.Rows.{Row}
use Rattle.dict_format.specs.FileLines.{Lists, TakeAll, entries_of, file_limit, none_listed}
use Rattle.dict_format.specs.PrintedFiles.{in_printing_order, printed_file, without_stamp}
use Rattle.dict_format.specs.declared.file.Listed.{Listed}
use Rattle.dict_expr.specs.Books.{difference, first_too_big, sum}
use Rattle.dict_expr.specs.declared.expr_fault.ExprFault.{ExprFault}
use Rattle.dict_expr.specs.declared.expr_fault.ExprFault.TheVariants as texts
use Rattle.command_line.specs.declared.expr_words.ExprOptions.{ExprOptions}
use Rattle.command_line.specs.declared.expr_words.Sign.{Sign}
use Rattle.command_line.specs.declared.expr_words.Sign.TheVariants.{Plus, Minus}
use Rattle.skk_top.specs.Dictionaries.{AreRowsOf, RefusesDictionaries}
use Rattle.skk_top.specs.NamedFiles.{dictionaries_named}
use Rattle.run_endings.specs.Finishes.{EndsUnbegun}
use Rattle.run_endings.specs.Page.{LeavesPrinted}
use Rattle.run_endings.specs.declared.fault.RunFault.{RunFault}
use Rattle.run_endings.specs.declared.fault.RunFault.TheVariants.{RowTooBig, Memory}
use Rattle.run_endings.specs.declared.finish.Run.{Run}

-- the names of the files
abbrev pub names_of : ExprOptions → List (List ℕ)
names_of options = options.first ∷ map (λ term. term.name) options.terms.items

-- the signs of those behind the first
abbrev pub signs_of : ExprOptions → List Sign
signs_of options = map (λ term. term.sign) options.terms.items

-- rows with those of a dictionary, or without them, by its sign
abbrev pub with_sign : Sign → List Row → List Row → List Row
with_sign Plus rows others = sum rows others
with_sign Minus rows others = difference rows others

-- what dictionaries come to from the first on, each of the others by its sign
abbrev pub put_together : List Row → List Sign → List (List Row) → List Row
put_together rows [] books = rows
put_together rows (sign ∷ signs) [] = rows
put_together rows (sign ∷ signs) (book ∷ books) = put_together (with_sign sign rows book) signs books

-- rows are what files come to by these signs, as far as they are told
abbrev pub ComeTo : List Sign → List Told → List Row → Type 0
ComeTo signs files rows =
    (first : List Row) × (others : List (List Row)) × AreRowsOf (first ∷ others) files
    × (rows ≡ put_together first signs others)

-- the line of a row is too long to be read again, that of the first such row in printing order has so many bytes
abbrev pub HasRowTooBig : List Row → ℕ → Type 0
HasRowTooBig rows bytes = option_map line_length (first_too_big rows) ≡ Some bytes

-- why rows are not printed: the line of one is too long, or memory is out
abbrev pub RefusesRows : List Row → RunFault → Type 0
RefusesRows rows (RowTooBig bytes) = HasRowTooBig rows bytes
RefusesRows rows Memory = ⊤
RefusesRows rows fault = ⊥

-- what it is for the run that rows have no text
abbrev pub fault_of_text : ExprFault → RunFault
fault_of_text (texts.RowTooBig bytes) = RowTooBig bytes
fault_of_text texts.Memory = Memory

-- what a file of rows lists: the rows in the order in which they are printed, with stamp 0, and no bad line
abbrev pub listed_again : List Row → Listed
listed_again rows = record { book = map without_stamp (in_printing_order rows); bad = [] }

-- rows were printed as a dictionary file, all of it or a prefix; no line of it is too long, and whatever its length its
-- lines list the rows again
pub record PrintsRows {D : Type 0} (rows : List Row) (run : Run D) (out : MovedSink) : Type 0 where
  pub fits : first_too_big rows ≡ None
  pub entries : TakeAll none_listed (entries_of (encode_utf8_all (printed_file rows))) (listed_again rows)
  pub read_again : byte_len (printed_file rows) ≤ file_limit
      → Lists (encode_utf8_all (printed_file rows)) (listed_again rows)
  pub printed : LeavesPrinted (encode_utf8_all (printed_file rows)) run.ended out

-- what the printing of rows leaves: they are refused, and nothing was printed, or they were printed
abbrev pub LeavesRows : {D : Type 0} → List Row → Run D → MovedSink → Type 0
LeavesRows rows run out = EndsUnbegun (RefusesRows rows) run out ⊎ PrintsRows rows run out

-- the dictionaries were read, and what they come to was printed, or refused
pub record PutsTogether {D : Type 0} (options : ExprOptions) (run : Run D) (shelf : MovedShelf) (out : MovedSink)
    : Type 0 where
  pub rows : List Row
  pub come_to : ComeTo (signs_of options) (dictionaries_named (names_of options) shelf) rows
  pub left : LeavesRows rows run out

-- what a run of `expr` leaves: the first dictionary that is none is refused, and nothing was printed, or what they come
-- to was printed, or refused
abbrev pub LeavesExpr : {D : Type 0} → ExprOptions → Run D → MovedShelf → MovedSink → Type 0
LeavesExpr options run shelf out =
    EndsUnbegun (RefusesDictionaries (dictionaries_named (names_of options) shelf) shelf.faults shelf.faults') run out
    ⊎ PutsTogether options run shelf out
