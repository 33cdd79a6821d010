-- The texts between the slashes of a line.
use Rattle.std.proofs.Common.{◌≡◌, ◌≢◌, ◌≤◌, ℕ, zero, suc, Bool, true, false, ◌==◌, None, Some, List, [], ◌∷◌}
use Rattle.std.proofs.Common.{inl, inr, ◌++◌, codes, replicate, refl, sym, ap, ◌∙◌, subst, arith, append_assoc}
use Rattle.std.proofs.Common.{append-nil, if◌then◌else◌}
use Rattle.std.specs.List.{flat_map, list_all}
use Rattle.std.proofs.lemmas.Bool.{and_from, cases_Bool, eqb-true, not_from_false}
use Rattle.std.proofs.lemmas.Option.{none-some, same_Some}
use Rattle.skk_text.specs.Lists.{is_empty}
use Rattle.skk_calls.specs.Canonical.{with_slash}
use Rattle.exact_readers.specs.Cuts.{cut, without_spaces}
use Rattle.exact_readers.specs.CutLaws.{cut-at, cut-none, up_to-exact}
use Rattle.exact_readers.specs.Exact.{IsExact, AreAll}
use Rattle.exact_readers.specs.ExactLaws.{then_at-some, past-sound}
use Rattle.exact_readers.specs.Formats.{SpellsMany, past, then_at, taken, if_whole, all}
use Rattle.exact_readers.specs.ManyLaws.{AreTaken, taken-sound, all-are, all-complete, many-printed}
use Rattle.exact_readers.specs.Lacking.{lacks}
use Rattle.dict_format.specs.Lines.{begins_without_space, HasBody, is_slash, slashed_text, HasTexts}
use Rattle.dict_format.specs.Reading.{is_space, texts_at}
use Rattle.dict_format.specs.Reasons.{is_slashed, ends_in_slash}
use Rattle.dict_format.specs.Words.{if_some}

pub slashed_exact : IsExact slashed_text
slashed_exact = up_to-exact is_slash

-- Bodies

-- the spaces that a text begins with, and what stands behind them
spaces_split : (text : List ℕ)
    → (n : ℕ) × (text ≡ replicate n 0x20 ++ without_spaces text) × (begins_without_space (without_spaces text) ≡ true)
spaces_split [] = (0, refl, refl)
spaces_split (c ∷ text) =
    let more = spaces_split text in
    elim (cases_Bool (c == 0x20)) [
      | inl e ↦ rw e (suc more.0, ap (λ d. d ∷ text) (eqb-true c 0x20 e) ∙ ap (λ ys. 0x20 ∷ ys) more.1, more.2)
      | inr e ↦ rw e (0, refl, not_from_false (c == 0x20) e)
    ]

no_spaces : (text : List ℕ) → begins_without_space text ≡ true → without_spaces text ≡ text
no_spaces text good = grind arith

-- spaces are left out before what begins with none
without_spaces-spaces : (n : ℕ) (text : List ℕ) → begins_without_space text ≡ true
    → without_spaces (replicate n 0x20 ++ text) ≡ text
without_spaces-spaces zero text good = no_spaces text good
without_spaces-spaces (suc n) text good = without_spaces-spaces n text good

-- what stands before the first space of a line holds none
pub before_space : (line reading rest : List ℕ) → cut is_space line ≡ Some (reading, rest) → lacks 0x20 reading ≡ true
before_space line reading rest e =
    let (end, passes, none, piece) = ((up_to-exact is_space).sound line reading rest e).spelled in none

-- a line that is cut at a space has its body behind the spaces
pub body-sound : (line reading rest : List ℕ) → cut is_space line ≡ Some (reading, rest)
    → HasBody line reading (without_spaces rest)
body-sound line reading rest e =
    let is = (up_to-exact is_space).sound line reading rest e in
    let (end, passes, none, piece) = is.spelled in
    let split = spaces_split rest in
    record {
      spaces = suc split.0;
      some_space = omega arith;
      line_is =
          is.tokens_are
          ∙ ap (λ ys. ys ++ rest) (piece ∙ ap (λ d. reading ++ d ∷ []) (eqb-true end 0x20 passes))
          ∙ ap (λ ys. (reading ++ 0x20 ∷ []) ++ ys) split.1
          ∙ append_assoc reading (0x20 ∷ []) (replicate split.0 0x20 ++ without_spaces rest)
          ∙ sym (append_assoc reading (replicate (suc split.0) 0x20) (without_spaces rest));
      before = none;
      behind = split.2;
    }

-- and a line that has a body is cut before it
pub body-cut : (line reading body : List ℕ) → HasBody line reading body
    → (rest : List ℕ) × (cut is_space line ≡ Some (reading, rest)) × (without_spaces rest ≡ body)
body-cut line reading body has = by has.spaces has.some_space has.line_is
  where
    by : (n : ℕ) → 1 ≤ n → line ≡ (reading ++ replicate n 0x20) ++ body
        → (rest : List ℕ) × (cut is_space line ≡ Some (reading, rest)) × (without_spaces rest ≡ body)
    by zero some is = absurd (omega arith)
    by (suc n) some is = (
      replicate n 0x20 ++ body,
      ap (cut is_space) (is ∙ append_assoc reading (replicate (suc n) 0x20) body)
          ∙ cut-at is_space reading 0x20 (replicate n 0x20 ++ body) has.before refl,
      without_spaces-spaces n body has.behind,
    )

-- Texts

-- a list that has something
some-is : {X : Type 0} (xs ys : List X) → if_some xs ≡ Some ys → (xs ≡ ys) × (ys ≢ [])
some-is [] ys e = absurd (none-some ys e)
some-is (x ∷ xs) ys e = let same = same_Some (x ∷ xs) ys e in (same, λ none. let wrong = same ∙ none in cc)

is-some : {X : Type 0} (xs : List X) → xs ≢ [] → if_some xs ≡ Some xs
is-some xs some = grind arith

-- by whether anything is left
pub whole_if : (texts : List (List ℕ)) (rest : List ℕ)
    → if_whole (texts, rest) ≡ (if is_empty rest then Some texts else None)
whole_if texts [] = refl
whole_if texts (c ∷ rest) = refl

-- the texts that are read are those of the body
pub texts-sound : (body : List ℕ) (texts : List (List ℕ)) → texts_at body ≡ Some texts → HasTexts body texts
unfolding texts_at
texts-sound body texts e =
    let found = then_at-some (past (codes "/") body) (λ behind. then_at (all slashed_text behind) if_some) texts e in
    let read = then_at-some (all slashed_text found.0) if_some texts found.2 in
    let some = some-is read.0 texts read.2 in
    record {
      some_text = some.1;
      behind = found.0;
      body_is = past-sound (codes "/") body found.0 found.1;
      spelled =
          subst (AreAll slashed_text found.0) (read.1 ∙ ap Some some.0) (all-are slashed_text slashed_exact found.0);
    }

-- and all of them are read
pub texts-complete : (body : List ℕ) (texts : List (List ℕ)) → HasTexts body texts → texts_at body ≡ Some texts
unfolding texts_at
texts-complete body texts has =
    ap texts_at has.body_is
    ∙ ap (λ o. then_at o if_some) (all-complete slashed_text slashed_exact texts has.behind has.spelled)
    ∙ is-some texts has.some_text

-- they hold no slash
pub texts_lack : (texts : List (List ℕ)) (behind : List ℕ) → SpellsMany slashed_text.Spells texts behind
    → list_all (lacks 0x2F) texts ≡ true
texts_lack [] behind is = refl
texts_lack (text ∷ texts) behind (front, back, (end, passes, none, piece), more, is) =
    and_from (lacks 0x2F text) _ none (texts_lack texts back more)

-- and are what was spelled, each with its slash
texts_are : (texts : List (List ℕ)) (behind : List ℕ) → SpellsMany slashed_text.Spells texts behind
    → behind ≡ flat_map with_slash texts
texts_are [] behind is = is
texts_are (text ∷ texts) behind (front, back, (end, passes, none, piece), more, is) =
    is ∙ ap (λ ys. ys ++ back) (piece ∙ ap (λ d. text ++ d ∷ []) (eqb-true end 0x2F passes))
    ∙ ap (λ ys. with_slash text ++ ys) (texts_are texts back more)

-- a body is a slash and the texts that are read of it, each with its slash
pub body_of_texts : (body : List ℕ) (texts : List (List ℕ)) → texts_at body ≡ Some texts
    → (body ≡ 0x2F ∷ flat_map with_slash texts) × (list_all (lacks 0x2F) texts ≡ true)
body_of_texts body texts e =
    let has = texts-sound body texts e in (
      has.body_is ∙ ap (λ ys. 0x2F ∷ ys) (texts_are texts has.behind has.spelled),
      texts_lack texts has.behind has.spelled,
    )

-- and texts without slashes are read of theirs
pub texts_of_body : (texts : List (List ℕ)) → texts ≢ [] → list_all (lacks 0x2F) texts ≡ true
    → texts_at (0x2F ∷ flat_map with_slash texts) ≡ Some texts
texts_of_body texts some lack =
    texts-complete _ texts (record {
      some_text = some;
      behind = flat_map with_slash texts;
      body_is = refl;
      spelled =
          many-printed slashed_text (lacks 0x2F) with_slash (record { spells = λ text e. (0x2F, refl, e, refl) }) texts
          lack;
    })

-- Slashes at both ends

ends-append : (front : List ℕ) (c : ℕ) (back : List ℕ) → ends_in_slash (front ++ c ∷ back) ≡ ends_in_slash (c ∷ back)
ends-append [] c back = refl
ends-append (d ∷ []) c back = refl
ends-append (d ∷ e ∷ front) c back = ends-append (e ∷ front) c back

ends-lacks : (text : List ℕ) → lacks 0x2F text ≡ true → ends_in_slash text ≡ false
ends-lacks [] none = refl
ends-lacks (c ∷ []) none = grind arith
ends-lacks (c ∷ d ∷ text) none = grind (arith, ends-lacks (d ∷ text))

ends-behind : (front back : List ℕ) → ends_in_slash back ≡ true → ends_in_slash (front ++ back) ≡ true
ends-behind [] back e = e
ends-behind (c ∷ front) back e = grind (arith, ends-behind front back)

-- texts end in a slash
texts-end : (text : List ℕ) (texts : List (List ℕ)) (behind : List ℕ)
    → SpellsMany slashed_text.Spells (text ∷ texts) behind → ends_in_slash behind ≡ true
texts-end text [] behind (front, back, (end, passes, none, piece), more, is) =
    rw (is, more, append-nil, piece) (ends-behind text (end ∷ []) passes)
texts-end text (next ∷ texts) behind (front, back, first, more, is) =
    rw is (ends-behind front back (texts-end next texts back more))

-- so a body with texts has slashes at both ends
pub slashed-texts : (body : List ℕ) (texts : List (List ℕ)) → HasTexts body texts → is_slashed body ≡ true
slashed-texts body [] has = absurd (has.some_text refl)
slashed-texts body (text ∷ texts) has = ap is_slashed has.body_is ∙ texts-end text texts has.behind has.spelled

-- and what is read as no texts has not
pub slashed-none : (body : List ℕ) → texts_at body ≡ None → is_slashed body ≡ false
unfolding texts_at
slashed-none [] e = refl
slashed-none (c ∷ rest) e =
    by (c == 0x2F) refl (taken slashed_text.step rest).0 (taken slashed_text.step rest).1 refl
    (taken-sound slashed_text slashed_exact rest)
  where
    by : (b : Bool) → (c == 0x2F) ≡ b → (texts : List (List ℕ)) (left : List ℕ)
        → taken slashed_text.step rest ≡ (texts, left) → AreTaken slashed_text rest texts left
        → is_slashed (c ∷ rest) ≡ false
    by false f texts left same is = rw f refl
    by true f texts (x ∷ left) same is =
        rw (f, is.tokens_are)
        (ends-append is.pieces x left ∙ ends-lacks (x ∷ left) (cut-none is_slash (x ∷ left) is.ends))
    by true f [] [] same is = rw (f, is.tokens_are, is.spelled) refl
    by true f (text ∷ texts) [] same is =
        let some : texts_at (c ∷ rest) ≡ Some (text ∷ texts) = rw (f, same) refl in
        absurd (none-some (text ∷ texts) (sym e ∙ some))
