-- What a front of the bytes of a typist's connection comes to is the first of what all of them come to.
use Rattle.std.proofs.Common.{◌≡◌, inl, inr, ℕ, Bool, true, false, List, [], ◌∷◌, ◌++◌, refl, sym, ap, ◌∙◌, subst}
use Rattle.std.proofs.Common.{append-nil}
use Rattle.romaji_rules.specs.declared.rule.Rule.{Rule}
use Rattle.typist_line.specs.Conversations.{Conversation, Converses, Means, opened, refused}
use Rattle.typist_line.specs.FirstLaws.{first-itself}
use Rattle.typist_line.specs.Firsts.{IsFirstOf}
use Rattle.typist_line.specs.TypedLines.{Opening, KeyLine, AllSay, lines_in, is_too_long}
use Rattle.typist_line.proofs.KeyTexts.{OneLine, OneOpening}
use Rattle.typist_line.proofs.Standing.{lines-on, stays-long}
use Rattle.typist_line.proofs.Talks.{opened-first}

-- Lines

-- what texts say is the first of what they say with more behind them
all-same : OneLine → (texts more : List (List ℕ)) (lines others : List KeyLine) → AllSay texts lines
    → AllSay (texts ++ more) others → (later : List KeyLine) × AllSay more later × (others ≡ lines ++ later)
all-same one [] more [] others say said = (others, said, refl)
all-same one [] more (line ∷ lines) others say said = absurd say
all-same one (text ∷ texts) more [] others say said = absurd say
all-same one (text ∷ texts) more (line ∷ lines) [] say said = absurd said
all-same one (text ∷ texts) more (line ∷ lines) (other ∷ others) say said =
    let (later, rest, e) = all-same one texts more lines others say.1 said.1 in (
      later,
      rest,
      ap (λ l. l ∷ others) (sym (one text line other say.0 said.0)) ∙ ap (λ ls. line ∷ ls) e,
    )

-- no texts say no lines
no-lines : (texts : List (List ℕ)) (lines : List KeyLine) → texts ≡ [] → AllSay texts lines → lines ≡ []
no-lines [] [] e say = refl
no-lines [] (line ∷ lines) e say = absurd say
no-lines (text ∷ texts) lines e say = cc

-- Conversations

-- more lines add to what lines come to, and none is added behind a line that is too long
lines-first : (rules : List Rule) (opening : Opening) (lines later : List KeyLine) (long long' : Bool)
    → (long ≡ true → (later ≡ []) × (long' ≡ true))
    → IsFirstOf (opened rules opening lines long) (opened rules opening (lines ++ later) long')
lines-first rules opening lines later false long' stays = opened-first rules opening lines later long'
lines-first rules opening lines later true long' stays =
    let (none, same) = stays refl in
    subst (IsFirstOf (opened rules opening lines true))
    (ap (λ ls. opened rules opening ls true) (sym (ap (λ ls. lines ++ ls) none ∙ append-nil lines))
    ∙ ap (opened rules opening (lines ++ later)) (sym same))
    (first-itself (opened rules opening lines true))

-- what texts come to is the first of what they come to with more behind them
means-first : OneLine → OneOpening → (rules : List Rule) (texts added : List (List ℕ)) (long long' : Bool)
    (meaning whole : Conversation) → Means rules texts long meaning → Means rules (texts ++ added) long' whole
    → (long ≡ true → (added ≡ []) × (long' ≡ true)) → IsFirstOf meaning whole
means-first one opens_once rules [] added false long' meaning whole is all stays =
    subst (λ (m : Conversation). IsFirstOf m whole) (sym is) tt
means-first one opens_once rules [] added true long' meaning whole is all stays =
    let (none, same) = stays refl in
    let refuses : whole ≡ refused =
    subst (λ b. Means rules [] b whole) same (subst (λ (ys : List (List ℕ)). Means rules ys long' whole) none all) in
    subst (λ (m : Conversation). IsFirstOf m whole) (sym is)
    (subst (IsFirstOf refused) (sym refuses) (first-itself refused))
means-first one opens_once rules (first ∷ texts) added long long' meaning whole (inl (none, is))
    (inl (none', all)) stays =
    subst (λ (m : Conversation). IsFirstOf m whole) (sym is)
    (subst (IsFirstOf refused) (sym all) (first-itself refused))
means-first one opens_once rules (first ∷ texts) added long long' meaning whole (inl (none, is))
    (inr (opening, lines, opens, say, all)) stays = absurd (none opening opens)
means-first one opens_once rules (first ∷ texts) added long long' meaning whole (inr (opening, lines, opens, say, is))
    (inl (none, all)) stays = absurd (none opening opens)
means-first one opens_once rules (first ∷ texts) added long long' meaning whole (inr (opening, lines, opens, say, is))
    (inr (opening', lines', opens', say', all)) stays =
    let (later, rest, lines_are) = all-same one texts added lines lines' say say' in
    let whole_is : whole ≡ opened rules opening (lines ++ later) long' =
    all ∙ ap (λ (o : Opening). opened rules o lines' long') (opens_once first opening' opening opens' opens)
    ∙ ap (λ (ls : List KeyLine). opened rules opening ls long') lines_are in
    subst (λ (m : Conversation). IsFirstOf m whole) (sym is)
    (subst (IsFirstOf (opened rules opening lines long)) (sym whole_is)
    (lines-first rules opening lines later long long'
    (λ is_long. let (none, same) = stays is_long in (no-lines added later none rest, same))))

-- what a front comes to is the first of what all come to
pub converses-first : OneLine → OneOpening → (rules : List Rule) (front rest : List ℕ) (meaning whole : Conversation)
    → Converses rules front meaning → Converses rules (front ++ rest) whole → IsFirstOf meaning whole
converses-first one opens_once rules front rest meaning whole is all =
    let kept = (lines_in front).1 in
    let later = lines_in (kept ++ rest) in
    means-first one opens_once rules (lines_in front).0 later.0 (is_too_long kept) (is_too_long later.1) meaning whole
    is
    (subst (λ (p : List (List ℕ) × List ℕ). Means rules p.0 (is_too_long p.1) whole) (lines-on front rest) all)
    (stays-long kept rest)
