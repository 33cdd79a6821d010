-- A script as far as it is read.
use Rattle.std.proofs.Common.{◌≡◌, ◌<◌, ◌≤◌, ◌+◌, sym, ℕ, Bool, true, false, Option, List, [], ◌∷◌, ◌++◌, length}
use Rattle.std.proofs.Common.{get_or, replicate, refl, ap, ◌∙◌, subst, arith}
use Rattle.std.proofs.lemmas.List.{append_assoc, append-nil, length_push, get_or-replicate}
use Rattle.std.specs.List.{list_all}
use Rattle.skk_text.specs.Lines.{lines_of}
use Rattle.key_scripts.specs.Marks.{Mark}
use Rattle.key_scripts.specs.Script.{Spells, Says, MayFollow, IsFirstBad, with_said, opens_well, OpenFirst}
use Rattle.key_scripts.specs.declared.line.Line.{Line}
use Rattle.key_scripts.proofs.Scripts.{opens-said, first-said, says-push}

-- the texts before the rest say lines, which are counted and marked
pub record AreRead (bytes rest : List ℕ) (number : ℕ) (lines : List Line) (marks : List Bool) : Type 0 where
  pub before : List (List ℕ)
  pub parts : lines_of bytes ≡ before ++ lines_of rest
  pub said : Says [] before lines
  pub count : number ≡ length before
  pub room : number + length rest ≤ length bytes
  pub marked : Mark marks lines
  pub well : list_all opens_well lines ≡ true
  pub first : OpenFirst lines

-- at the start no session is named, and no line is there
pub none_read : (bytes : List ℕ) (lines : List Line) → lines ≡ [] → AreRead bytes bytes 0 lines (replicate 65 false)
none_read bytes lines empty = record {
  before = [];
  parts = refl;
  said = empty;
  count = refl;
  room = omega arith;
  marked = subst (Mark (replicate 65 false)) (sym empty)
      (λ session small. (
        λ marked. let unmarked : get_or (replicate 65 false) session false ≡ false =
            get_or-replicate 65 session false false (omega arith) in cc,
        λ named. absurd (omega (arith, named.1)),
      ));
  well = ap (list_all opens_well) empty;
  first = subst OpenFirst (sym empty) (λ number. refl);
}

-- a text more
pub one_more_text : (bytes rest text behind : List ℕ) (number : ℕ) (lines more : List Line) (marks new : List Bool)
    → AreRead bytes rest number lines marks →
    lines_of rest ≡ text ∷ lines_of behind → length behind < length rest → Mark new more →
    (said : Option Line) × Spells text said × MayFollow lines said × (more ≡ with_said lines said)
    → AreRead bytes behind (number + 1) more new
one_more_text bytes rest text behind number lines more marks new read first less marked next = record {
  before = read.before ++ text ∷ [];
  parts = read.parts ∙ ap (λ r. read.before ++ r) first ∙ sym (append_assoc read.before (text ∷ []) (lines_of behind));
  said =
      subst (Says [] (read.before ++ text ∷ [])) (sym next.3)
      (says-push [] read.before lines text next.0 read.said next.1 next.2);
  count = omega (arith, read.count, length_push read.before text);
  room = omega (arith, read.room);
  marked = marked;
  well = ap (list_all opens_well) next.3 ∙ opens-said lines text next.0 next.1 read.well;
  first = subst OpenFirst (sym next.3) (first-said lines next.0 next.2 read.first);
}

-- at the end the script is said
pub all_read : (bytes rest : List ℕ) (number : ℕ) (lines : List Line) (marks : List Bool)
    → AreRead bytes rest number lines marks → rest ≡ [] → Says [] (lines_of bytes) lines
all_read bytes rest number lines marks read end =
    subst (λ (texts : List (List ℕ)). Says [] texts lines)
    (sym (read.parts ∙ ap (λ r. read.before ++ lines_of r) end ∙ append-nil read.before)) read.said

-- a text that is refused is the first that is no line
pub refused : (bytes rest text behind : List ℕ) (number : ℕ) (lines : List Line) (marks : List Bool)
    → AreRead bytes rest number lines marks → lines_of rest ≡ text ∷ lines_of behind →
    ((said : Option Line) → Spells text said → ¬ MayFollow lines said) → IsFirstBad (lines_of bytes) (number + 1)
refused bytes rest text behind number lines marks read first none = record {
  before = read.before;
  bad = text;
  behind = lines_of behind;
  lines = lines;
  parts = read.parts ∙ ap (λ r. read.before ++ r) first;
  said = read.said;
  none = none;
  place = ap (λ n. n + 1) read.count;
}
