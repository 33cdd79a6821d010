-- A typist's connection behind more bytes.
use Rattle.std.proofs.Common.{◌≡◌, ◌<◌, ◌≤◌, ◌⊎◌, inl, inr, ℕ, ◌+◌, Bool, true, false, None, Some, List}
use Rattle.std.proofs.Common.{[]}
use Rattle.std.proofs.Common.{◌∷◌, ◌++◌, length, refl, sym, ap, ◌∙◌, subst, arith, length-append, append_assoc}
use Rattle.std.proofs.Common.{append-nil}
use Rattle.std.proofs.Common.{encode_utf8_all, ◌↔◌}
use Rattle.std.proofs.lemmas.Bool.{lt-ltb, ltb-true, le-ltb}
use Rattle.std.proofs.lemmas.Str.{encodes-append}
use Rattle.romaji_rules.specs.declared.rule.Rule.{Rule}
use Rattle.exact_readers.specs.Cuts.{cut}
use Rattle.exact_readers.specs.CutLaws.{cut-at}
use Rattle.exact_readers.specs.Lines.{is_line_feed}
use Rattle.exact_readers.specs.ManyLaws.{taken-none, taken-some}
use Rattle.cut_input.specs.Pieces.{begun_piece}
use Rattle.cut_input.specs.PieceLaws.{piece-exact, piece-here, piece-open, piece-long, cut-behind, cut-parts}
use Rattle.cut_input.specs.PieceLaws.{goes-on-behind, goes-on-begun, goes-on-uncut, long-behind, long-more}
use Rattle.cut_input.specs.RestLaws.{taken-on}
use Rattle.skk_calls.specs.Interactions.{ends, Leads, here, printing}
use Rattle.skk_calls.specs.InteractionLaws.{leads-on, leads-prints}
use Rattle.session_machine.specs.Display.{line}
use Rattle.session_machine.specs.Session.{Session, new_session}
use Rattle.typist_line.specs.declared.typing.Typist.{Typist}
use Rattle.typist_line.specs.declared.typing.Typist.TheVariants.{New, Typing, Over}
use Rattle.typist_line.specs.Conversations.{Conversation, Converses, Means, IsClosed, Closes, OpensNone, refusal}
use Rattle.typist_line.specs.Conversations.{refused}
use Rattle.typist_line.specs.Conversations.{opened, typed, closing}
use Rattle.typist_line.specs.TypedLines.{longest_line, ended_line, lines_in, is_too_long, IsOpen, Opening, Opens}
use Rattle.typist_line.specs.TypedLines.{KeyLine, SaysKeys, AllSay}
use Rattle.typist_line.specs.Typings.{TypingView, Talk, with_talk, IsTyped, IsOver, StandsSo, Stands, Breaks, Heard}
use Rattle.typist_line.specs.Typings.{Grows, Types, Stops, IsSilent, TypesLine}
use Rattle.typist_line.specs.Typings.{BreaksLine, StandsIf, is_over}
use Rattle.typist_line.proofs.Talks.{opened-on}

-- Lines

-- what stands behind the last line decides how it goes on
pub lines-on : (bytes more : List ℕ)
    → lines_in (bytes ++ more)
    ≡ ((lines_in bytes).0 ++ (lines_in ((lines_in bytes).1 ++ more)).0, (lines_in ((lines_in bytes).1 ++ more)).1)
lines-on bytes more = taken-on ended_line (piece-exact is_line_feed longest_line) bytes more

-- so it is known where what stands there is
lines-then : (bytes more kept rest : List ℕ) (lines added : List (List ℕ)) → lines_in bytes ≡ (lines, kept)
    → lines_in (kept ++ more) ≡ (added, rest) → lines_in (bytes ++ more) ≡ (lines ++ added, rest)
lines-then bytes more kept rest lines added e f =
    lines-on bytes more
    ∙ ap (λ (p : List (List ℕ) × List ℕ). (p.0 ++ (lines_in (p.1 ++ more)).0, (lines_in (p.1 ++ more)).1)) e
    ∙ ap (λ (p : List (List ℕ) × List ℕ). (lines ++ p.0, p.1)) f

-- no line ends
unended : (bytes : List ℕ) → ended_line.step bytes ≡ None → lines_in bytes ≡ ([], bytes)
unended bytes none = taken-none ended_line (piece-exact is_line_feed longest_line) bytes none

-- a line ends, and nothing stands behind it
ended : (begun end behind bytes : List ℕ) → cut is_line_feed bytes ≡ Some (end, behind)
    → length begun + length end ≤ longest_line
    → (piece : List ℕ) × (bytes ≡ piece ++ behind)
    × (IsOpen begun → lines_in (begun ++ piece) ≡ ((begun ++ end) ∷ [], []))
ended begun end behind bytes cut_is fits =
    let (lf, last, none, is) = cut-parts is_line_feed bytes end behind cut_is in (
      end ++ lf ∷ [],
      is ∙ sym (append_assoc end (lf ∷ []) behind),
      λ goes.
          let here : cut is_line_feed (begun ++ (end ++ lf ∷ [])) ≡ Some (begun ++ end, []) =
          cut-behind is_line_feed begun (end ++ lf ∷ []) end [] goes.0 (cut-at is_line_feed end lf [] none last) in
          taken-some ended_line (piece-exact is_line_feed longest_line) (begun ++ (end ++ lf ∷ [])) (begun ++ end) []
          (piece-here is_line_feed longest_line (begun ++ (end ++ lf ∷ [])) (begun ++ end) [] here
          (omega (arith, fits, length-append begun end)))
          ∙ ap (λ (p : List (List ℕ) × List ℕ). ((begun ++ end) ∷ p.0, p.1))
          (unended [] (piece-open is_line_feed longest_line [] refl)),
    )

-- a line goes on
goes-on : (begun bytes : List ℕ) → IsOpen begun → cut is_line_feed bytes ≡ None
    → length begun + length bytes ≤ longest_line
    → (lines_in (begun ++ bytes) ≡ ([], begun ++ bytes)) × IsOpen (begun ++ bytes)
goes-on begun bytes goes cut_is fits =
    let whole = goes-on-behind is_line_feed begun bytes goes.0 cut_is in (
      unended (begun ++ bytes)
          (piece-open is_line_feed longest_line (begun ++ bytes) (goes-on-uncut is_line_feed (begun ++ bytes) whole)),
      (whole, omega (arith, fits, length-append begun bytes)),
    )

-- a line becomes too long
too-long : (begun bytes : List ℕ) → IsOpen begun
    → longest_line < length begun + length (begun_piece is_line_feed bytes)
    → (lines_in (begun ++ bytes) ≡ ([], begun ++ bytes)) × (is_too_long (begun ++ bytes) ≡ true)
too-long begun bytes goes long =
    let longer = long-behind is_line_feed longest_line begun bytes goes.0 long in (
      unended (begun ++ bytes) (piece-long is_line_feed longest_line (begun ++ bytes) longer),
      lt-ltb longest_line (length (begun_piece is_line_feed (begun ++ bytes))) longer,
    )

-- and stays so, and no line ends
pub stays-long : (rest more : List ℕ) → is_too_long rest ≡ true
    → ((lines_in (rest ++ more)).0 ≡ []) × (is_too_long (lines_in (rest ++ more)).1 ≡ true)
stays-long rest more long =
    let longer = long-more is_line_feed longest_line rest more
    (ltb-true longest_line (length (begun_piece is_line_feed rest)) long) in
    let none = unended (rest ++ more) (piece-long is_line_feed longest_line (rest ++ more) longer) in (
      ap (λ p. p.0) none,
      ap (λ p. is_too_long p.1) none
          ∙ lt-ltb longest_line (length (begun_piece is_line_feed (rest ++ more))) longer,
    )

-- a line that has begun is not too long
open-short : (kept : List ℕ) → IsOpen kept → is_too_long kept ≡ false
open-short kept goes =
    le-ltb longest_line (length (begun_piece is_line_feed kept))
    (omega (arith, goes.1, ap length (goes-on-begun is_line_feed kept goes.0)))

-- Conversations

-- what bytes come to is what their lines and their rest do
converses-by : (rules : List Rule) (bytes rest : List ℕ) (lines : List (List ℕ)) (long : Bool) (meaning : Conversation)
    → lines_in bytes ≡ (lines, rest) → is_too_long rest ≡ long → Means rules lines long meaning
    → Converses rules bytes meaning
converses-by rules bytes rest lines long meaning e f means =
    subst (λ (p : List (List ℕ) × List ℕ). Means rules p.0 (is_too_long p.1) meaning) (sym e)
    (subst (λ b. Means rules lines b meaning) (sym f) means)

closed-by : (bytes rest : List ℕ) (lines : List (List ℕ)) (long : Bool) → lines_in bytes ≡ (lines, rest)
    → is_too_long rest ≡ long → Closes lines long → IsClosed bytes
closed-by bytes rest lines long e f closes =
    subst (λ (p : List (List ℕ) × List ℕ). Closes p.0 (is_too_long p.1)) (sym e) (subst (Closes lines) (sym f) closes)

-- more lines are said behind others
say-on : (texts more : List (List ℕ)) (lines others : List KeyLine) → AllSay texts lines → AllSay more others
    → AllSay (texts ++ more) (lines ++ others)
say-on [] more [] others say later = later
say-on (text ∷ texts) more (key_line ∷ lines) others say later = (say.0, say-on texts more lines others say.1 later)
say-on [] more (key_line ∷ lines) others say later = absurd say
say-on (text ∷ texts) more [] others say later = absurd say

-- a connection that is over stays so, with the same meaning
over-means : (rules : List Rule) (lines added : List (List ℕ)) (long long' : Bool) (meaning : Conversation)
    → Means rules lines long meaning → Closes lines long → (long ≡ true → (added ≡ []) × (long' ≡ true))
    → Means rules (lines ++ added) long' meaning × Closes (lines ++ added) long'
over-means rules [] added long long' meaning means closes stays =
    let (none, same) = stays closes in
    subst (λ (ys : List (List ℕ)). Means rules ys long' meaning × Closes ys long') (sym none)
    (means ∙ ap (λ b. closing b New) (closes ∙ sym same), same)
over-means rules (first ∷ texts) added long long' meaning (inl refuses) closes stays = (inl refuses, inl refuses.0)
over-means rules (first ∷ texts) added long long' meaning (inr (opening, lines, opens, say, e)) (inl none) stays =
    absurd (none opening opens)
over-means rules (first ∷ texts) added long long' meaning (inr (opening, lines, opens, say, e)) (inr closes) stays =
    let (none, same) = stays closes in (
      inr (
        opening,
        lines,
        opens,
        subst (λ (ys : List (List ℕ)). AllSay ys lines) (sym (ap (λ ys. texts ++ ys) none ∙ append-nil texts)) say,
        e ∙ ap (opened rules opening lines) (closes ∙ sym same),
      ),
      inr same,
    )

pub over-stays : (rules : List Rule) (bytes more : List ℕ) (talk : Talk) → IsOver rules bytes talk
    → IsOver rules (bytes ++ more) talk
over-stays rules bytes more talk over =
    let rest = (lines_in bytes).1 in
    let later = lines_in (rest ++ more) in
    let all = over-means rules (lines_in bytes).0 later.0 (is_too_long rest) (is_too_long later.1) over.meaning
    over.converses over.closed (stays-long rest more) in
    record {
      meaning = over.meaning;
      converses = converses-by rules (bytes ++ more) later.1 ((lines_in bytes).0 ++ later.0) (is_too_long later.1)
          over.meaning (lines-on bytes more) refl all.0;
      led = over.led;
      closed = closed-by (bytes ++ more) later.1 ((lines_in bytes).0 ++ later.0) (is_too_long later.1)
          (lines-on bytes more) refl all.1;
    }

-- however a connection stands, what its bytes come to leads there
pub stands-converses : (rules : List Rule) (bytes kept : List ℕ) (talk : Talk) (typist : Typist)
    → StandsSo rules bytes talk typist kept
    → (meaning : Conversation) × Converses rules bytes meaning × Leads meaning talk.dialog talk.text (ends typist)
stands-converses rules bytes kept talk New (e, goes, none) = (
  ends New,
  converses-by rules bytes kept [] false (ends New) e (open-short kept goes) refl,
  subst (λ (t : Talk). Leads (ends New) t.dialog t.text (ends New)) (sym none) (here (ends New)),
)
stands-converses rules bytes kept talk (Typing session) is = (
  opened rules is.opening is.lines false,
  converses-by rules bytes kept (is.first ∷ is.texts) false (opened rules is.opening is.lines false) is.lines_are
      (open-short kept is.begun) (inr (is.opening, is.lines, is.opens, is.say, refl)),
  is.led,
)
stands-converses rules bytes kept talk Over over = (over.meaning, over.converses, over.led)

-- it is over exactly where the bytes end it
pub closed-where : (rules : List Rule) (bytes kept : List ℕ) (talk : Talk) (typist : Typist)
    → StandsSo rules bytes talk typist kept → (is_over typist ≡ true) ↔ IsClosed bytes
closed-where rules bytes kept talk New (e, goes, none) = (
  λ over. cc (over),
  λ closed.
      let long = subst (λ (p : List (List ℕ) × List ℕ). Closes p.0 (is_too_long p.1)) e closed in
      let short = open-short kept goes in cc (long, short),
)
closed-where rules bytes kept talk (Typing session) is = (
  λ over. cc (over),
  λ closed. by (subst (λ (p : List (List ℕ) × List ℕ). Closes p.0 (is_too_long p.1)) is.lines_are closed),
)
  where
    by : OpensNone is.first ⊎ (is_too_long kept ≡ true) → false ≡ true
    by (inl none) = absurd (none is.opening is.opens)
    by (inr long) = let short = open-short kept is.begun in cc (long, short)
closed-where rules bytes kept talk Over over = (λ is. over.closed, λ closed. refl)

-- Talk

-- nothing is said
abbrev pub silent : Talk
silent = record { dialog = []; text = [] }

-- a refusal is sent
abbrev pub refusing : Talk
refusing = record { dialog = []; text = refusal }

-- talk behind which nothing is said
talk-silent : (talk : Talk) → with_talk talk silent ≡ talk
talk-silent talk = λ i. record { dialog = append-nil talk.dialog i; text = append-nil talk.text i }

-- talk behind talk
talk-twice : (talk more last : Talk) → with_talk (with_talk talk more) last ≡ with_talk talk (with_talk more last)
talk-twice talk more last = λ i. record {
  dialog = append_assoc talk.dialog more.dialog last.dialog i;
  text = append_assoc talk.text more.text last.text i;
}

grows-silent : (before after : Heard) → IsSilent before after → Grows before after silent
grows-silent before after is =
    (is.0 ∙ sym (append-nil before.said), is.1 ∙ sym (append-nil before.out))

grows-on : (before middle after : Heard) (talk more : Talk) → Grows before middle talk → Grows middle after more
    → Grows before after (with_talk talk more)
grows-on before middle after talk more one two = (
  two.0 ∙ ap (λ ys. ys ++ more.dialog) one.0 ∙ append_assoc before.said talk.dialog more.dialog,
  two.1 ∙ ap (λ ys. ys ++ encode_utf8_all more.text) one.1
      ∙ append_assoc before.out (encode_utf8_all talk.text) (encode_utf8_all more.text)
      ∙ ap (λ ys. before.out ++ ys) (sym (encodes-append talk.text more.text)),
)

-- Single lines

-- what a line comes to that is typed
abbrev pub LineTalk : List Rule → List ℕ → Typist → Talk → Typist → Type 0
LineTalk rules text New talk after =
    ((opening : Opening) × (session : Session) × Opens text opening × (after ≡ Typing session)
    × Leads (opened rules opening [] false) talk.dialog talk.text (ends (Typing session)))
    ⊎ (OpensNone text × (after ≡ Over) × (talk ≡ refusing))
LineTalk rules text (Typing session) talk after =
    (key_line : KeyLine) × (next : Session) × SaysKeys text key_line × (after ≡ Typing next)
    × Leads (typed rules session (key_line ∷ []) false) talk.dialog talk.text (ends (Typing next))
LineTalk rules text Over talk after = (after ≡ Over) × (talk ≡ silent)

line-talk : (rules : List Rule) (text : List ℕ) (typist after : Typist) (before heard : Heard)
    → TypesLine rules text typist before heard after
    → (talk : Talk) × Grows before heard talk × LineTalk rules text typist talk after
line-talk rules text New New before heard (said, none) = absurd none
line-talk rules text New (Typing session) before heard (said, (opening, opens, is, sent)) = (
  record { dialog = []; text = line session },
  (said ∙ sym (append-nil before.said), sent),
  inl (
    opening,
    session,
    opens,
    refl,
    subst (λ s. Leads (opened rules opening [] false) [] (line s) (ends (Typing s))) (sym is)
        (leads-prints (line (new_session opening.typist opening.book))
        (here (opened rules opening [] false))),
  ),
)
line-talk rules text New Over before heard (said, (none, sent)) =
    (refusing, (said ∙ sym (append-nil before.said), sent), inr (none, refl, refl))
line-talk rules text (Typing session) after before heard (key_line, says, (talk, next, grows, is, led)) =
    (talk, grows, (key_line, next, says, is, led))
line-talk rules text Over after before heard (is, none) = (silent, grows-silent before heard none, (is, refl))

-- what of a line was said where memory is out
abbrev pub LineBreak : List Rule → List ℕ → Typist → Talk → Type 0
LineBreak rules text New talk = talk ≡ silent
LineBreak rules text (Typing session) talk =
    (talk ≡ silent)
    ⊎ ((key_line : KeyLine) × (to : Conversation) × SaysKeys text key_line
    × Leads (typed rules session (key_line ∷ []) false) talk.dialog talk.text to)
LineBreak rules text Over talk = talk ≡ silent

line-break : (rules : List Rule) (text : List ℕ) (typist : Typist) (before heard : Heard)
    → BreaksLine rules text typist before heard
    → (talk : Talk) × Grows before heard talk × LineBreak rules text typist talk
line-break rules text New before heard none = (silent, grows-silent before heard none, refl)
line-break rules text (Typing session) before heard (inl none) = (silent, grows-silent before heard none, inl refl)
line-break rules text (Typing session) before heard (inr (key_line, says, (dialog, to, grows, led))) =
    (record { dialog = dialog; text = [] }, grows, inr (key_line, to, says, led))
line-break rules text Over before heard none = (silent, grows-silent before heard none, refl)

-- Standing

-- nothing has begun
nothing-begun : IsOpen []
nothing-begun = (refl, omega arith)

-- a line goes on
stands-open : (rules : List Rule) (before bytes kept : List ℕ) (earlier : Talk) (typist : Typist)
    → StandsSo rules before earlier typist kept → is_over typist ≡ false → cut is_line_feed bytes ≡ None
    → length kept + length bytes ≤ longest_line → StandsSo rules (before ++ bytes) earlier typist (kept ++ bytes)
stands-open rules before bytes kept earlier New (e, goes, none) more cut_is fits =
    let on = goes-on kept bytes goes cut_is fits in
    (lines-then before bytes kept (kept ++ bytes) [] [] e on.0, on.1, none)
stands-open rules before bytes kept earlier (Typing session) is more cut_is fits =
    let on = goes-on kept bytes is.begun cut_is fits in
    record {
      first = is.first;
      texts = is.texts;
      opening = is.opening;
      lines = is.lines;
      lines_are = lines-then before bytes kept (kept ++ bytes) (is.first ∷ is.texts) [] is.lines_are on.0
          ∙ ap (λ (ys : List (List ℕ)). (is.first ∷ ys, kept ++ bytes)) (append-nil is.texts);
      opens = is.opens;
      say = is.say;
      begun = on.1;
      led = is.led;
    }
stands-open rules before bytes kept earlier Over is more cut_is fits = cc

-- a line is too long
stands-long : (rules : List Rule) (before bytes kept : List ℕ) (earlier : Talk) (typist : Typist)
    → StandsSo rules before earlier typist kept → is_over typist ≡ false
    → longest_line < length kept + length (begun_piece is_line_feed bytes)
    → IsOver rules (before ++ bytes) (with_talk earlier refusing)
stands-long rules before bytes kept earlier New (e, goes, none) more long =
    let on = too-long kept bytes goes long in
    let lines_are = lines-then before bytes kept (kept ++ bytes) [] [] e on.0 in
    subst (λ (t : Talk). IsOver rules (before ++ bytes) (with_talk t refusing)) (sym none) (record {
      meaning = refused;
      converses = converses-by rules (before ++ bytes) (kept ++ bytes) [] true refused lines_are on.1 refl;
      led = printing refusal (ends Over) [] [] (ends Over) (here (ends Over));
      closed = closed-by (before ++ bytes) (kept ++ bytes) [] true lines_are on.1 refl;
    })
stands-long rules before bytes kept earlier (Typing session) is more long =
    let on = too-long kept bytes is.begun long in
    let lines_are = lines-then before bytes kept (kept ++ bytes) (is.first ∷ is.texts) [] is.lines_are on.0
    ∙ ap (λ (ys : List (List ℕ)). (is.first ∷ ys, kept ++ bytes)) (append-nil is.texts) in
    let way = opened-on rules is.opening is.lines [] true earlier.dialog earlier.text session is.led in
    record {
      meaning = opened rules is.opening (is.lines ++ []) true;
      converses = converses-by rules (before ++ bytes) (kept ++ bytes) (is.first ∷ is.texts) true
          (opened rules is.opening (is.lines ++ []) true) lines_are on.1
          (inr (
            is.opening,
            is.lines ++ [],
            is.opens,
            subst (AllSay is.texts) (sym (append-nil is.lines)) is.say,
            refl,
          ));
      led = subst (λ d. Leads (opened rules is.opening (is.lines ++ []) true) d (earlier.text ++ refusal) (ends Over))
          (sym (append-nil earlier.dialog)) (leads-prints refusal way);
      closed = closed-by (before ++ bytes) (kept ++ bytes) (is.first ∷ is.texts) true lines_are on.1 (inr refl);
    }
stands-long rules before bytes kept earlier Over is more long = cc

-- a line is typed
stands-line : (rules : List Rule) (before piece kept end : List ℕ) (earlier talk : Talk) (typist after : Typist)
    → StandsSo rules before earlier typist kept
    → (IsOpen kept → lines_in (kept ++ piece) ≡ ((kept ++ end) ∷ [], []))
    → LineTalk rules (kept ++ end) typist talk after
    → StandsSo rules (before ++ piece) (with_talk earlier talk) after []
stands-line rules before piece kept end earlier talk New after (e, goes, none)
    line_is (inl (opening, session, opens, is, led)) =
    subst (λ t. StandsSo rules (before ++ piece) (with_talk earlier talk) t []) (sym is)
    (subst (λ (t : Talk). IsTyped rules (before ++ piece) (with_talk t talk) session []) (sym none) (record {
      first = kept ++ end;
      texts = [];
      opening = opening;
      lines = [];
      lines_are = lines-then before piece kept [] [] ((kept ++ end) ∷ []) e (line_is goes);
      opens = opens;
      say = tt;
      begun = nothing-begun;
      led = led;
    }))
stands-line rules before piece kept end earlier talk New after (e, goes, none) line_is
    (inr (opens_none, is, refusing_is)) =
    let lines_are = lines-then before piece kept [] [] ((kept ++ end) ∷ []) e (line_is goes) in
    subst (λ t. StandsSo rules (before ++ piece) (with_talk earlier talk) t []) (sym is)
    (subst (λ (t : Talk). IsOver rules (before ++ piece) (with_talk t talk)) (sym none)
    (subst (λ (t : Talk). IsOver rules (before ++ piece) (with_talk silent t)) (sym refusing_is) (record {
      meaning = refused;
      converses = converses-by rules (before ++ piece) [] ((kept ++ end) ∷ []) (is_too_long []) refused lines_are refl
          (inl (opens_none, refl));
      led = printing refusal (ends Over) [] [] (ends Over) (here (ends Over));
      closed = closed-by (before ++ piece) [] ((kept ++ end) ∷ []) (is_too_long []) lines_are refl (inl opens_none);
    })))
stands-line rules before piece kept end earlier talk (Typing session) after is
    line_is (key_line, next, says, after_is, led) =
    subst (λ t. StandsSo rules (before ++ piece) (with_talk earlier talk) t []) (sym after_is) (record {
      first = is.first;
      texts = is.texts ++ (kept ++ end) ∷ [];
      opening = is.opening;
      lines = is.lines ++ key_line ∷ [];
      lines_are = lines-then before piece kept [] (is.first ∷ is.texts) ((kept ++ end) ∷ []) is.lines_are
          (line_is is.begun);
      opens = is.opens;
      say = say-on is.texts ((kept ++ end) ∷ []) is.lines (key_line ∷ []) is.say (says, tt);
      begun = nothing-begun;
      led = leads-on
          (opened-on rules is.opening is.lines (key_line ∷ []) false earlier.dialog earlier.text session is.led) led;
    })
stands-line rules before piece kept end earlier talk Over after is line_is (after_is, none) =
    subst (λ t. StandsSo rules (before ++ piece) (with_talk earlier talk) t []) (sym after_is)
    (subst (IsOver rules (before ++ piece)) (sym (ap (with_talk earlier) none ∙ talk-silent earlier))
    (over-stays rules before piece earlier is))

-- memory is out behind what was typed
breaks-standing : (rules : List Rule) (before more kept : List ℕ) (earlier : Talk) (typist : Typist)
    → StandsSo rules before earlier typist kept → Breaks rules (before ++ more) earlier
breaks-standing rules before more kept earlier typist stands =
    let (meaning, converses, led) = stands-converses rules before kept earlier typist stands in
    record {
      front = before;
      rest = more;
      bytes_are = refl;
      meaning = meaning;
      converses = converses;
      to = ends typist;
      led = led;
    }

-- or within a line
breaks-line : (rules : List Rule) (before piece behind kept end : List ℕ) (earlier talk : Talk) (typist : Typist)
    → StandsSo rules before earlier typist kept
    → (IsOpen kept → lines_in (kept ++ piece) ≡ ((kept ++ end) ∷ [], []))
    → LineBreak rules (kept ++ end) typist talk
    → Breaks rules (before ++ (piece ++ behind)) (with_talk earlier talk)
breaks-line rules before piece behind kept end earlier talk New stands line_is none =
    subst (Breaks rules (before ++ (piece ++ behind))) (sym (ap (with_talk earlier) none ∙ talk-silent earlier))
    (breaks-standing rules before (piece ++ behind) kept earlier New stands)
breaks-line rules before piece behind kept end earlier talk (Typing session) stands line_is (inl none) =
    subst (Breaks rules (before ++ (piece ++ behind))) (sym (ap (with_talk earlier) none ∙ talk-silent earlier))
    (breaks-standing rules before (piece ++ behind) kept earlier (Typing session) stands)
breaks-line rules before piece behind kept end earlier talk (Typing session) is line_is
    (inr (key_line, to, says, led)) =
    record {
      front = before ++ piece;
      rest = behind;
      bytes_are = sym (append_assoc before piece behind);
      meaning = opened rules is.opening (is.lines ++ key_line ∷ []) false;
      converses = converses-by rules (before ++ piece) [] (is.first ∷ (is.texts ++ (kept ++ end) ∷ [])) false
          (opened rules is.opening (is.lines ++ key_line ∷ []) false)
          (lines-then before piece kept [] (is.first ∷ is.texts) ((kept ++ end) ∷ []) is.lines_are (line_is is.begun))
          refl
          (inr (
            is.opening,
            is.lines ++ key_line ∷ [],
            is.opens,
            say-on is.texts ((kept ++ end) ∷ []) is.lines (key_line ∷ []) is.say (says, tt),
            refl,
          ));
      to = to;
      led = leads-on
          (opened-on rules is.opening is.lines (key_line ∷ []) false earlier.dialog earlier.text session is.led) led;
    }
breaks-line rules before piece behind kept end earlier talk Over stands line_is none =
    subst (Breaks rules (before ++ (piece ++ behind))) (sym (ap (with_talk earlier) none ∙ talk-silent earlier))
    (breaks-standing rules before (piece ++ behind) kept earlier Over stands)

-- Typing

-- a connection that is not out of memory
abbrev pub there : Typist → List ℕ → TypingView
there typist begun = record { typist = Some typist; begun = begun }

-- bytes were typed in front of a rest
pub record HasTyped (rules : List Rule) (bytes rest : List ℕ) (typing : TypingView) (typist : Typist) (begun : List ℕ)
    (heard heard' : Heard) : Type 0 where
  pub front : List ℕ
  pub bytes_are : bytes ≡ front ++ rest
  pub talk : Talk
  pub grows : Grows heard heard' talk
  pub stands : (before : List ℕ) (earlier : Talk) → Stands rules before earlier typing
      → StandsSo rules (before ++ front) (with_talk earlier talk) typist begun

pub typed-none : (rules : List Rule) (bytes : List ℕ) (typist : Typist) (begun : List ℕ) (heard : Heard)
    → HasTyped rules bytes bytes (there typist begun) typist begun heard heard
typed-none rules bytes typist begun heard = record {
  front = [];
  bytes_are = refl;
  talk = silent;
  grows = grows-silent heard heard (refl, refl);
  stands = λ before earlier stands.
      subst (λ ys. StandsSo rules ys (with_talk earlier silent) typist begun) (sym (append-nil before))
      (subst (λ (t : Talk). StandsSo rules before t typist begun) (sym (talk-silent earlier)) stands);
}

-- a line more
pub typed-line : (rules : List Rule) (bytes rest end behind : List ℕ) (typing : TypingView) (typist after : Typist)
    (begun : List ℕ) (heard heard' later : Heard)
    → HasTyped rules bytes rest typing typist begun heard heard'
    → cut is_line_feed rest ≡ Some (end, behind) → length begun + length end ≤ longest_line
    → TypesLine rules (begun ++ end) typist heard' later after
    → HasTyped rules bytes behind typing after [] heard later
typed-line rules bytes rest end behind typing typist after begun heard heard' later has cut_is fits types =
    let (talk, grows, line) = line-talk rules (begun ++ end) typist after heard' later types in
    let (piece, rest_is, line_is) = ended begun end behind rest cut_is fits in
    record {
      front = has.front ++ piece;
      bytes_are = has.bytes_are ∙ ap (λ ys. has.front ++ ys) rest_is ∙ sym (append_assoc has.front piece behind);
      talk = with_talk has.talk talk;
      grows = grows-on heard heard' later has.talk talk has.grows grows;
      stands = λ before earlier stands.
          subst (λ ys. StandsSo rules ys (with_talk earlier (with_talk has.talk talk)) after [])
          (append_assoc before has.front piece)
          (subst (λ (t : Talk). StandsSo rules ((before ++ has.front) ++ piece) t after [])
          (talk-twice earlier has.talk talk)
          (stands-line rules (before ++ has.front) piece begun end (with_talk earlier has.talk) talk typist after
          (has.stands before earlier stands) line_is line));
    }

-- the end of the bytes
pub typed-open : (rules : List Rule) (bytes rest : List ℕ) (typing : TypingView) (typist : Typist) (begun kept : List ℕ)
    (heard heard' : Heard) → HasTyped rules bytes rest typing typist begun heard heard' → is_over typist ≡ false
    → cut is_line_feed rest ≡ None → length begun + length rest ≤ longest_line → kept ≡ begun ++ rest
    → Types rules bytes typing (there typist kept) heard heard'
typed-open rules bytes rest typing typist begun kept heard heard' has more cut_is fits kept_is = record {
  talk = has.talk;
  grows = has.grows;
  stands = λ before earlier stands.
      subst (λ ys. StandsSo rules ys (with_talk earlier has.talk) typist kept)
      (append_assoc before has.front rest ∙ ap (λ ys. before ++ ys) (sym has.bytes_are))
      (subst (StandsSo rules ((before ++ has.front) ++ rest) (with_talk earlier has.talk) typist) (sym kept_is)
      (stands-open rules (before ++ has.front) rest begun (with_talk earlier has.talk) typist
      (has.stands before earlier stands) more cut_is fits));
}

pub typed-long : (rules : List Rule) (bytes rest : List ℕ) (typing : TypingView) (typist : Typist) (begun kept : List ℕ)
    (heard heard' later : Heard) → HasTyped rules bytes rest typing typist begun heard heard' → is_over typist ≡ false
    → longest_line < length begun + length (begun_piece is_line_feed rest)
    → later.said ≡ heard'.said → later.out ≡ heard'.out ++ encode_utf8_all refusal
    → Types rules bytes typing (there Over kept) heard later
typed-long rules bytes rest typing typist begun kept heard heard' later has more long said sent = record {
  talk = with_talk has.talk refusing;
  grows = grows-on heard heard' later has.talk refusing has.grows (said ∙ sym (append-nil heard'.said), sent);
  stands = λ before earlier stands.
      subst (λ ys. IsOver rules ys (with_talk earlier (with_talk has.talk refusing)))
      (append_assoc before has.front rest ∙ ap (λ ys. before ++ ys) (sym has.bytes_are))
      (subst (IsOver rules ((before ++ has.front) ++ rest)) (talk-twice earlier has.talk refusing)
      (stands-long rules (before ++ has.front) rest begun (with_talk earlier has.talk) typist
      (has.stands before earlier stands) more long));
}

pub typed-over : (rules : List Rule) (bytes rest : List ℕ) (typing : TypingView) (typist : Typist) (begun : List ℕ)
    (heard heard' : Heard) → HasTyped rules bytes rest typing typist begun heard heard' → is_over typist ≡ true
    → Types rules bytes typing (there typist begun) heard heard'
typed-over rules bytes rest typing New begun heard heard' has over = cc
typed-over rules bytes rest typing (Typing session) begun heard heard' has over = cc
typed-over rules bytes rest typing Over begun heard heard' has over = record {
  talk = has.talk;
  grows = has.grows;
  stands = λ before earlier stands.
      subst (λ ys. IsOver rules ys (with_talk earlier has.talk))
      (append_assoc before has.front rest ∙ ap (λ ys. before ++ ys) (sym has.bytes_are))
      (over-stays rules (before ++ has.front) rest (with_talk earlier has.talk) (has.stands before earlier stands));
}

-- memory is out
pub stops-standing : (rules : List Rule) (bytes rest : List ℕ) (typing : TypingView) (typist : Typist)
    (begun : List ℕ) (heard heard' : Heard) → HasTyped rules bytes rest typing typist begun heard heard'
    → Stops rules bytes typing heard heard'
stops-standing rules bytes rest typing typist begun heard heard' has = record {
  talk = has.talk;
  grows = has.grows;
  breaks = λ before earlier stands.
      subst (λ ys. Breaks rules ys (with_talk earlier has.talk))
      (append_assoc before has.front rest ∙ ap (λ ys. before ++ ys) (sym has.bytes_are))
      (breaks-standing rules (before ++ has.front) rest begun (with_talk earlier has.talk) typist
      (has.stands before earlier stands));
}

pub stops-line : (rules : List Rule) (bytes rest end behind : List ℕ) (typing : TypingView) (typist : Typist)
    (begun : List ℕ) (heard heard' later : Heard)
    → HasTyped rules bytes rest typing typist begun heard heard'
    → cut is_line_feed rest ≡ Some (end, behind) → length begun + length end ≤ longest_line
    → BreaksLine rules (begun ++ end) typist heard' later → Stops rules bytes typing heard later
stops-line rules bytes rest end behind typing typist begun heard heard' later has cut_is fits broken =
    let (talk, grows, line) = line-break rules (begun ++ end) typist heard' later broken in
    let (piece, rest_is, line_is) = ended begun end behind rest cut_is fits in
    record {
      talk = with_talk has.talk talk;
      grows = grows-on heard heard' later has.talk talk has.grows grows;
      breaks = λ before earlier stands.
          subst (λ ys. Breaks rules ys (with_talk earlier (with_talk has.talk talk)))
          (append_assoc before has.front (piece ++ behind)
          ∙ ap (λ ys. before ++ ys) (sym (has.bytes_are ∙ ap (λ ys. has.front ++ ys) rest_is)))
          (subst (Breaks rules ((before ++ has.front) ++ (piece ++ behind))) (talk-twice earlier has.talk talk)
          (breaks-line rules (before ++ has.front) piece behind begun end (with_talk earlier has.talk) talk typist
          (has.stands before earlier stands) line_is line));
    }

-- where memory was out before, nothing more is typed
pub stops-gone : (rules : List Rule) (bytes : List ℕ) (typing : TypingView) (heard : Heard) → typing.typist ≡ None
    → Stops rules bytes typing heard heard
stops-gone rules bytes typing heard none = record {
  talk = silent;
  grows = grows-silent heard heard (refl, refl);
  breaks = λ before earlier stands.
      absurd (subst (λ t. StandsIf rules before earlier t typing.begun) none stands);
}
