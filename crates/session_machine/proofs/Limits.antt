-- No text of a session's frames passes its limit.
use Rattle.std.specs.Bool.{⊤}
use Rattle.std.proofs.Common.{◌≡◌, ◌≤◌, ◌+◌, ◌-◌, ◌∙◌, sym, ap, ℕ, slice_get, true, Some, List, [], ◌∷◌, ◌++◌, length}
use Rattle.std.proofs.Common.{drop, leb-true, subst, arith, zero, suc}
use Rattle.std.proofs.lemmas.List.Elements.{All-append, All-cons, All-head, All-nil, All-tail, All-take}
use Rattle.std.proofs.lemmas.List.{take-append-drop}
use Rattle.std.specs.List.{All}
use Rattle.skk_text.specs.TextLaws.{byte_len-append}
use Rattle.skk_text.specs.Text.{byte_len, without_last}
use Rattle.skk_text.specs.declared.key.Key.{Key}
use Rattle.dict_laws.specs.OwnBooks.{AsksOnly}
use Rattle.romaji_rules.specs.declared.rule.Rule.{Rule}
use Rattle.session_machine.specs.declared.frame.OuterFrame.{OuterFrame}
use Rattle.session_machine.specs.Meanings.{Meaning}
use Rattle.session_machine.specs.Pressed.{all_pressed}
use Rattle.session_machine.specs.Registrations.{outside}
use Rattle.session_machine.specs.Session.{Session, TextFits, fits_behind, text_limit, without_chars}
use Rattle.session_machine.proofs.Kept.{Keeps, all-kept}

-- the text of a frame outside is within its limit
abbrev pub OuterFits : OuterFrame → Type 0
OuterFits frame = TextFits frame.text

-- the text of each frame is within its limit: of the one that keys go to, and of those outside it
abbrev pub Fits : Session → Type 0
Fits session = TextFits session.frame.text × All OuterFits session.outer

-- each session that a meaning may come to fits, whatever it is answered
abbrev pub AllFit : Meaning → Type 0
AllFit meaning = AsksOnly (λ call. ⊤) (λ given. ⊤) Fits meaning

-- a text without its last character is no longer
shorter : (text : List ℕ) → byte_len (without_last text) ≤ byte_len text
shorter text =
    let front = without_last text in
    let back = drop (length text - 1) text in
    omega (arith, sym (ap byte_len (take-append-drop (length text - 1) text)) ∙ byte_len-append front back)

shorter_by : (count : ℕ) (text : List ℕ) → byte_len (without_chars count text) ≤ byte_len text
shorter_by count text =
    let front = without_chars count text in
    let back = drop (length text - count) text in
    omega (arith, sym (ap byte_len (take-append-drop (length text - count) text)) ∙ byte_len-append front back)

-- a piece that fits behind a text leaves that within its limit
behind-fits : (text piece : List ℕ) → fits_behind text piece ≡ true → TextFits (text ++ piece)
behind-fits text piece room =
    omega (arith, byte_len-append text piece, leb-true (byte_len text + byte_len piece) text_limit room)

-- the innermost of the frames outside fits where all do
innermost-fits : (frames : List OuterFrame) (n : ℕ) (frame : OuterFrame) → slice_get frames n ≡ Some frame
    → All OuterFits frames → OuterFits frame
innermost-fits [] n frame is fits = cc
innermost-fits (first ∷ frames) zero frame is fits =
    let same : first ≡ frame = cc in subst OuterFits same (All-head OuterFits first frames fits)
innermost-fits (first ∷ frames) (suc n) frame is fits =
    innermost-fits frames n frame is (All-tail OuterFits first frames fits)

-- each change that keys make of a session leaves it within its limits
fits-kept : Keeps (λ call. ⊤) (λ given. ⊤) Fits
fits-kept = record {
  looks_up = λ session key okuri fits. tt;
  completes = λ session prefix fits. tt;
  learns = λ session key okuri cand fits. tt;
  purges = λ session key word fits. tt;
  annotates = λ session key cand fits. tt;
  unlearns = λ session choice learned fits is was. tt;
  noticed = λ session notice fits. fits;
  stated = λ session state fits. fits;
  moded = λ session mode fits. fits;
  longer = λ session piece room fits. (behind-fits session.frame.text piece room, fits.1);
  shorter = λ session fits. (omega (arith, fits.0, shorter session.frame.text), fits.1);
  unchosen = λ session count fits. (omega (arith, fits.0, shorter_by count session.frame.text), fits.1);
  chosen = λ session choice given is so fits. fits;
  opened = λ session waiting room fits. (
    omega arith,
    All-append OuterFits session.outer (outside session.frame waiting ∷ []) fits.1
        (All-cons OuterFits (outside session.frame waiting) [] fits.0 (All-nil OuterFits)),
  );
  closed = λ session frame is fits. (
    innermost-fits session.outer (length session.outer - 1) frame is fits.1,
    All-take OuterFits (length session.outer - 1) session.outer fits.1,
  );
  ended = λ session frame piece is room fits. (
    behind-fits frame.text piece room,
    All-take OuterFits (length session.outer - 1) session.outer fits.1,
  );
}

-- whatever keys are pressed, and however they are answered
pub all-fit : (rules : List Rule) (session : Session) (keys : List Key) → Fits session
    → AllFit (all_pressed rules session keys)
all-fit rules session keys fits = all-kept fits-kept rules session keys fits
