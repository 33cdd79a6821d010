-- Dictionaries that are put together, at small examples, each worked out by hand.
use Rattle.std.proofs.Common.{◌≡◌, List, [], ◌∷◌, codes, map, refl}
use Prim.Native.String.{String}
use Rattle.skk_calls.specs.declared.part.Part.TheVariants.{Nasi}
use Rattle.skk_calls.specs.Rows.{Row}
use Rattle.dict_expr.specs.declared.expr_fault.ExprFault.TheVariants as texts
use Rattle.command_line.specs.declared.expr_words.ExprOptions.{ExprOptions}
use Rattle.command_line.specs.declared.expr_words.Sign.TheVariants.{Plus, Minus}
use Rattle.run_endings.specs.declared.fault.RunFault.TheVariants.{Outside, Memory, RowTooBig}
use Rattle.skk_top.specs.ExprCommand.{RefusesRows, fault_of_text, names_of, put_together, signs_of}

-- a dictionary of one reading with these words
abbrev with_words : List String → List Row
with_words words = record {
  key = record { part = Nasi; reading = codes "k" };
  cands = map (λ word. record { word = codes word; note = [] }) words;
  blocks = [];
  hides = [];
  stamp = 0;
} ∷ []

-- signs are taken from the left, and each is that of its own dictionary
signs_from_left : map (λ signs. put_together (with_words ("a" ∷ "b" ∷ [])) signs
    (with_words ("b" ∷ "c" ∷ []) ∷ with_words ("a" ∷ []) ∷ []))
    ((Plus ∷ Plus ∷ []) ∷ (Plus ∷ Minus ∷ []) ∷ (Minus ∷ Plus ∷ []) ∷ (Minus ∷ Minus ∷ []) ∷ [])
    ≡ with_words ("a" ∷ "b" ∷ "c" ∷ []) ∷ with_words ("b" ∷ "c" ∷ []) ∷ with_words ("a" ∷ []) ∷ [] ∷ []
signs_from_left = refl

-- one dictionary alone is as it is
alone : put_together (with_words ("b" ∷ "a" ∷ [])) [] [] ≡ with_words ("b" ∷ "a" ∷ [])
alone = refl

-- the first file has no sign
abbrev options : ExprOptions
options = record {
  first = codes "a";
  terms = record {
    items = record { sign = Minus; name = codes "b" } ∷ record { sign = Plus; name = codes "a" } ∷ [];
  };
}

named_and_signed : (names_of options ≡ codes "a" ∷ codes "b" ∷ codes "a" ∷ []) × (signs_of options ≡ Minus ∷ Plus ∷ [])
named_and_signed = (refl, refl)

-- rows are refused for a line that is too long, of just so many bytes, and for want of memory alone
faults_of_texts : map fault_of_text (texts.RowTooBig 65536 ∷ texts.Memory ∷ []) ≡ RowTooBig 65536 ∷ Memory ∷ []
faults_of_texts = refl

refused_rows : RefusesRows [] Memory × (¬ RefusesRows [] (RowTooBig 65536)) × (¬ RefusesRows [] Outside)
refused_rows = (tt, λ is. cc (is), λ none. none)
