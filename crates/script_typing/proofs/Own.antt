-- How far the typing of a session's own lines has come, and what it leaves, by how it ends.
use Rattle.std.proofs.Common.{◌≡◌, ◌<◌, ◌+◌, ◌∙◌, ap, sym, subst, refl, ℕ, None, Some, Result, Ok, Err, IsErrAnd, List}
use Rattle.std.proofs.Common.{[]}
use Rattle.std.proofs.Common.{◌∷◌, ◌++◌, append_assoc, length, drop, get_or, rules}
use Rattle.std.proofs.lemmas.List.{append-nil, at_drop_more, map-append}
use Rattle.romaji_rules.specs.declared.rule.Rule.{Rule}
use Rattle.skk_calls.specs.declared.answer.Answer.{Answer}
use Rattle.skk_calls.specs.declared.caller.Caller.{Ghosts as CallerGhosts}
use Rattle.skk_calls.specs.InteractionLaws.{begins-followed, begins-leads, comes-followed, leads-on}
use Rattle.skk_calls.specs.InteractionLaws.{led-asked}
use Rattle.skk_calls.specs.Interactions.{Interaction, ends, asks, prints, followed_by, Dialog, Comes, Leads, here}
use Rattle.skk_calls.specs.Interactions.{answers_of}
use Rattle.skk_text.specs.declared.memory.Memory.{Memory}
use Rattle.key_scripts.specs.declared.line.Line.{Line}
use Rattle.key_scripts.specs.declared.line.Line.TheVariants.{Keys, Opening}
use Rattle.session_machine.specs.Said.{Says, spoken}
use Rattle.session_machine.specs.Session.{Session}
use Rattle.script_typing.specs.declared.worker.Worker.{Worker}
use Rattle.script_typing.specs.LineLaws.{says-lost}
use Rattle.script_typing.specs.Lines.{line_played}
use Rattle.script_typing.specs.Woven.{own_typing, taken}
use Rattle.script_typing.specs.Pages.{PageList}
use Rattle.script_typing.specs.Workers.{own_pages, pages_printed, TypesOwnLine, LeavesOwnLines}

-- what an interaction comes to is taken from the head of its answers, and the rest is left
pub taken-comes : {S : Type 0} (interaction : Interaction S) (dialog : Dialog) (end : S)
    → Comes interaction dialog end → (more : List Answer)
    → taken interaction (answers_of dialog ++ more) ≡ Some (end, more)
taken-comes (ends value) [] end comes more = ap (λ v. Some (v, more)) comes
taken-comes (ends value) (pair ∷ dialog) end comes more = absurd comes
taken-comes (asks call next) [] end comes more = absurd comes
taken-comes (asks call next) (pair ∷ dialog) end comes more = taken-comes (next pair.1) dialog end comes.1 more
taken-comes (prints text rest) [] end comes more = absurd comes
taken-comes (prints text rest) (pair ∷ dialog) end comes more = absurd comes

-- the answers of a dialog and of what follows it, with more behind them
answers-behind : (dialog behind : Dialog) (more : List Answer)
    → answers_of (dialog ++ behind) ++ more ≡ answers_of dialog ++ (answers_of behind ++ more)
answers-behind dialog behind more =
    ap (λ given. given ++ more) (map-append (λ pair. pair.1) dialog behind)
    ∙ append_assoc (answers_of dialog) (answers_of behind) more

-- a caller has said a dialog, and pages were printed, that lead from own lines to those that are left
pub record ReachesOwn {C : Type 0} (callers : CallerGhosts C) (rules : List Rule) (lines rest : List Line)
    (before now : Worker C) : Type 0 where
  pub dialog : Dialog
  pub new : PageList
  pub grows : callers.said now.caller ≡ callers.said before.caller ++ dialog
  pub leads : Leads (own_typing rules before.session lines) dialog [] (own_typing rules now.session rest)
  pub paged : now.pages ≡ before.pages ++ new
  pub printed : (more : List Answer)
      → own_pages rules before.number before.session lines (answers_of dialog ++ more)
      ≡ new ++ own_pages rules before.number now.session rest more

module _ {C : Type 0} (callers : CallerGhosts C) (table : List Rule) where
  -- at the start nothing was said or printed
  pub own-start : (lines : List Line) (worker : Worker C) → ReachesOwn callers table lines lines worker worker
  own-start lines worker = record {
    dialog = [];
    new = [];
    grows = sym (append-nil (callers.said worker.caller));
    leads = here _;
    paged = sym (append-nil worker.pages);
    printed = λ more. refl;
  }

  module _ (lines : List Line) (line : Line) (rest : List Line) (before now after : Worker C)
      (reached : ReachesOwn callers table lines (line ∷ rest) before now) where
    -- what the line asks, and then those behind it
    abbrev first : Interaction Session
    first = line_played table now.session line

    abbrev behind : Session → Interaction Session
    behind session = own_typing table session rest

    first-own : (l : Line) → own_typing table now.session (l ∷ rest)
        ≡ followed_by (line_played table now.session l) behind
    first-own (Keys named ks) = refl
    first-own (Opening named typist book) = refl

    -- one line more
    pub own-line : now.number ≡ before.number
        → TypesOwnLine callers table line (Ok tt) now after → ReachesOwn callers table lines rest before after
    own-line same types = record {
      dialog = reached.dialog ++ types.says.dialog;
      new = reached.new ++ page;
      grows = types.says.grows ∙ ap (λ s. s ++ types.says.dialog) reached.grows
          ∙ append_assoc (callers.said before.caller) reached.dialog types.says.dialog;
      leads = leads-on reached.leads
          (subst (λ i. Leads i types.says.dialog [] (own_typing table after.session rest)) (sym (first-own line))
          (comes-followed first types.says.dialog after.session behind types.says.ok));
      paged = types.paged ∙ ap (λ ps. ps ++ page) reached.paged ∙ append_assoc before.pages reached.new page;
      printed = λ more.
          ap (own_pages table before.number before.session lines) (answers-behind reached.dialog types.says.dialog more)
          ∙ reached.printed (answers_of types.says.dialog ++ more)
          ∙ ap (λ ps. reached.new ++ ps)
          (ap (λ t. elim t [
            | None ↦ []
            | Some (a, left) ↦ pages_printed before.number line a ++ own_pages table before.number a rest left
          ]) (taken-comes first types.says.dialog after.session types.says.ok more)
          ∙ ap (λ n. pages_printed n line after.session ++ own_pages table before.number after.session rest more)
          (sym same))
          ∙ sym (append_assoc reached.new page (own_pages table before.number after.session rest more));
    }
      where
        page : PageList
        page = pages_printed now.number line after.session

    -- a line for which memory is out
    pub own-broken : (ended : Result (Unit {0}) Memory) (P : Memory → Type 0) → IsErrAnd ended P
        → (memory : Memory) → TypesOwnLine callers table line (Err memory) now after
        → LeavesOwnLines callers table lines ended before after
    own-broken (Ok done) P lacks memory types = absurd (search (rules, lacks))
    own-broken (Err lost) P lacks memory types = record {
      dialog = reached.dialog ++ types.says.dialog;
      new = reached.new;
      rest = own_pages table before.number now.session (line ∷ rest) (answers_of types.says.dialog ++ []);
      grows = types.says.grows ∙ ap (λ s. s ++ types.says.dialog) reached.grows
          ∙ append_assoc (callers.said before.caller) reached.dialog types.says.dialog;
      asks = led-asked (leads-on reached.leads
          (subst (λ i. Leads i types.says.dialog [] begun.0) (sym (first-own line)) begun.1));
      paged = types.unpaged ∙ reached.paged;
      printed =
          ap (own_pages table before.number before.session lines)
          (sym (append-nil (answers_of (reached.dialog ++ types.says.dialog)))
          ∙ answers-behind reached.dialog types.says.dialog [])
          ∙ reached.printed (answers_of types.says.dialog ++ []);
      whole = tt;
      leads = tt;
    }
      where
        begun : (to : Interaction Session) × Leads (followed_by first behind) types.says.dialog [] to
        begun =
            begins-leads (followed_by first behind) types.says.dialog
            (begins-followed first types.says.dialog behind types.says.memory)

  -- a line that was played, for whose page memory was out then
  pub own-lost : (line : Line) (end : Session) (before after : Worker C)
      (ended : Result (Unit {0}) Memory) (P : Memory → Type 0) → IsErrAnd ended P → after.number ≡ before.number
      → Says (line_played table before.session line) (Ok end) (spoken callers.number callers.said before.caller)
      (spoken callers.number callers.said after.caller) → after.pages ≡ before.pages
      → TypesOwnLine callers table line ended before after
  own-lost line end before after (Ok done) P lacks number says same = absurd (search (rules, lacks))
  own-lost line end before after (Err lost) P lacks number says same =
      record { number = number; says = says-lost lost says; paged = tt; unpaged = same }

  -- the lines left begin with the one at its place
  pub own-next : (lines : List Line) (place : ℕ) (line : Line) (before now : Worker C) → place < length lines
      → line ≡ get_or lines place line → ReachesOwn callers table lines (drop place lines) before now
      → ReachesOwn callers table lines (line ∷ drop (place + 1) lines) before now
  own-next lines place line before now within is reached =
      subst (λ (rest : List Line). ReachesOwn callers table lines rest before now)
      (at_drop_more (λ (ls : List Line). ls) lines place line within
      ∙ ap (λ l. l ∷ drop (place + 1) lines) (sym is)) reached

  -- all lines were typed
  pub own-typed : (lines : List Line) (before now : Worker C) → ReachesOwn callers table lines [] before now
      → LeavesOwnLines callers table lines (Ok tt) before now
  own-typed lines before now reached = record {
    dialog = reached.dialog;
    new = reached.new;
    rest = [];
    grows = reached.grows;
    asks = led-asked reached.leads;
    paged = reached.paged;
    printed =
        ap (own_pages table before.number before.session lines) (sym (append-nil (answers_of reached.dialog)))
        ∙ reached.printed [];
    whole = refl;
    leads = reached.leads;
  }
