-- What the typing of lines by a caller for each session leaves, of what its parts leave.
use Rattle.std.proofs.Common.{◌≡◌, ◌≤◌, ◌∙◌, sym, ap, subst, refl, rules, arith, ℕ, Bool, true, false, cond}
use Rattle.std.proofs.Common.{None}
use Rattle.std.proofs.Common.{Some, List, [], ◌∷◌, ◌++◌, append-nil, length, map, All, Result, Ok, Err, OnOk, OnErr}
use Rattle.std.proofs.Common.{IfOk, IsErrAnd}
use Rattle.std.proofs.Common.{encode_utf8_all, ◌<◌, ◌+◌, drop, get_or}
use Rattle.std.proofs.lemmas.List.{at_drop_more, length-map}
use Rattle.std.proofs.lemmas.List.Elements.{All-head, All-tail}
use Rattle.std.proofs.lemmas.Str.{encodes-append}
use Rattle.std.specs.Io.KnownBytes.{Appends, Keeps}
use Rattle.skk_outside.specs.Moved.{MovedSink}
use Rattle.skk_outside.specs.Written.{AppendsPrefix}
use Rattle.romaji_rules.specs.declared.rule.Rule.{Rule}
use Rattle.skk_calls.specs.declared.chronicle.Noted.{Noted}
use Rattle.skk_calls.specs.declared.entry.Entry.{Entry}
use Rattle.skk_calls.specs.Chronicles.{history_of}
use Rattle.skk_calls.specs.Histories.{Opening, dialog}
use Rattle.skk_calls.specs.Interactions.{Dialog, printed_alone}
use Rattle.skk_calls.specs.Openings.{IsLegalOver, said_in, are_served}
use Rattle.skk_calls.specs.Tallies.{Tally, tally_of}
use Rattle.skk_text.specs.declared.memory.Memory.{Memory as no_memory}
use Rattle.key_scripts.specs.declared.line.Line.{Line}
use Rattle.script_typing.specs.declared.typed.Typed.{Typed}
use Rattle.script_typing.specs.Callers.{AreCallers, AskFrom, CountFrom, EndFrom, HaveAsked, LeadFrom}
use Rattle.script_typing.specs.Pages.{PageMap, first_page, pages_at, text_of_pages, without_first, woven_pages}
use Rattle.script_typing.specs.Sessions.{SessionMap}
use Rattle.script_typing.specs.Typed.{closing_lines, typing, typed_alone}
use Rattle.script_typing.specs.Woven.{Tasks, tasks_of, numbers_printed, answers_by, woven, are_apart}
use Rattle.script_typing.specs.Workers.{AreDone, AreWoven, WorkedBy}
use Rattle.desk_history.specs.Seats.{CallerState}
use Rattle.shared_desk.specs.Told.{Stood}
use Rattle.caller_work.specs.Disks.{DiskNow, KeepsDisk}
use Rattle.run_endings.specs.Page.{LeavesPrinted}
use Rattle.run_endings.specs.Status.{Ended, ended_by}
use Rattle.skk_top.specs.WeaveCommand.{KeepsCallers, LeavesPages, WeavesLines, text_left}
use Rattle.run_endings.specs.declared.fault.RunFault.{RunFault}
use Rattle.run_endings.specs.declared.fault.RunFault.TheVariants.{Memory}
use Rattle.run_endings.specs.PageLaws.{AppendsPrefix-more, printed-fault}
use Rattle.skk_top.proofs.LinesWork.{always, printed-none, work-closed}

-- Pages

-- the page of the number at a place is next
pub page-next : (order : List ℕ) (place d : ℕ) (pages pages' : PageMap) (page : List ℕ) → place < length order
    → Some page ≡ first_page (pages_at pages (get_or order place d))
    → pages' ≡ without_first pages (get_or order place d)
    → text_of_pages (woven_pages (drop place order) pages)
    ≡ page ++ text_of_pages (woven_pages (drop (place + 1) order) pages')
page-next order place d pages pages' page within there taken =
    at_drop_more (λ os. text_of_pages (woven_pages os pages)) order place d within
    ∙ ap (λ p. text_of_pages (elim p [
      | None ↦ []
      | Some first ↦ first ∷ woven_pages (drop (place + 1) order) (without_first pages (get_or order place d))
    ])) (sym there)
    ∙ ap (λ ps. page ++ text_of_pages (woven_pages (drop (place + 1) order) ps)) (sym taken)

-- where it has none there is no other
pub page-none : (order : List ℕ) (place d : ℕ) (pages : PageMap) → place < length order
    → None ≡ first_page (pages_at pages (get_or order place d))
    → text_of_pages (woven_pages (drop place order) pages) ≡ []
page-none order place d pages within none =
    at_drop_more (λ os. text_of_pages (woven_pages os pages)) order place d within
    ∙ ap (λ p. text_of_pages (elim p [
      | None ↦ []
      | Some first ↦ first ∷ woven_pages (drop (place + 1) order) (without_first pages (get_or order place d))
    ])) (sym none)

-- What is left

module _ (order : List ℕ) (typed : Typed) where
  abbrev pages_text : List ℕ
  pages_text = text_of_pages (woven_pages order typed.pages.entries)

  -- where all is whole the closing lines stand behind the pages
  left-all : typed.whole ≡ true → text_left order typed ≡ pages_text ++ closing_lines typed.sessions.entries
  left-all is = ap (λ b. pages_text ++ cond b (closing_lines typed.sessions.entries) []) is

  -- a prefix of the pages was printed
  pub pages-lost : (ended : Ended) (P : RunFault → Type 0) {out : MovedSink} → IsErrAnd ended P
      → LeavesPrinted (encode_utf8_all pages_text) ended out → LeavesPages order typed ended out
  pages-lost (Ok done) P lacks prints = absurd (search (rules, lacks))
  pages-lost (Err fault) P {out = out} lacks prints =
      let more = cond typed.whole (closing_lines typed.sessions.entries) [] in
      record {
        all = tt;
        prints = record {
          whole = tt;
          prefix = subst (AppendsPrefix out.written out.written') (sym (encodes-append pages_text more))
              (AppendsPrefix-more out.written out.written' (encode_utf8_all pages_text) (encode_utf8_all more)
              prints.prefix);
          stopped = prints.stopped;
          counted = prints.counted;
        };
      }

  -- where all is whole the closing lines were printed behind them
  pub pages-closed : (ended : Ended) (out : MovedSink) → typed.whole ≡ true
      → LeavesPrinted (encode_utf8_all (pages_text ++ closing_lines typed.sessions.entries)) ended out
      → LeavesPages order typed ended out
  pages-closed ended out all prints = record {
    all = always ended all;
    prints = subst (λ text. LeavesPrinted (encode_utf8_all text) ended out) (sym (left-all all)) prints;
  }

-- callers are as many as they have dialogs, and these are not more than the tasks
pub asked-few : (table : List Rule) (tasks : Tasks) (dialogs : List Dialog) → HaveAsked table tasks dialogs
    → length dialogs ≤ length tasks
asked-few table tasks [] asks = omega arith
asked-few table [] (d ∷ dialogs) asks = absurd asks
asked-few table (task ∷ tasks) (d ∷ dialogs) asks = omega (arith, asked-few table tasks dialogs asks.1)

-- the callers that a history tells of
pub told-callers : (history : List Entry) (slips : List CallerState) → All (Stood history) slips
    → CountFrom 0 (map (λ (s : CallerState). s.number) slips)
    → ((number : ℕ) → length slips ≤ number → dialog history number ≡ [])
    → AreCallers (dialog history) (map (λ (s : CallerState). s.number) slips) (map (λ (s : CallerState). s.mine) slips)
told-callers history slips stood counted strangers = record {
  counted = counted;
  said_by = said slips stood;
  strangers = λ number behind.
      strangers number (omega (arith, behind, length-map slips (λ (s : CallerState). s.number)));
}
  where
    said : (these : List CallerState) → All (Stood history) these
        → map (λ (s : CallerState). s.mine) these
        ≡ map (dialog history) (map (λ (s : CallerState). s.number) these)
    said [] all = refl
    said (slip ∷ these) all =
        ap (λ (d : Dialog). d ∷ map (λ (s : CallerState). s.mine) these)
        (sym (All-head (Stood history) slip these all).1)
        ∙ ap (λ ds. dialog history slip.number ∷ ds) (said these (All-tail (Stood history) slip these all))

module _ (table : List Rule) (lines : List Line) (said : ℕ → Dialog) (out : MovedSink) where
  abbrev text : List ℕ
  text = woven table [] (answers_by said (tasks_of lines)) lines

  -- what was printed of the pages of workers, and whether they were all
  pub record PrintsWoven (ended : Ended) : Type 0 where
    pub taken : OnOk ended (EndFrom table said 0 (tasks_of lines))
    pub leads : OnOk ended (LeadFrom table said 0 (tasks_of lines))
    pub prints : LeavesPrinted (encode_utf8_all text) ended out

  -- nothing, where memory was out before
  prints-none : (ended : Ended) → ended ≡ Err Memory → Keeps out.written out.written' → out.faults ≤ out.faults'
      → PrintsWoven ended
  prints-none ended is keeps counted =
      subst PrintsWoven (sym is)
      (record { taken = tt; leads = tt; prints = printed-none text out keeps counted })

  module _ (typed : Typed) (woven_so : AreWoven table lines (answers_by said (tasks_of lines)) typed.whole
      typed.pages.entries typed.sessions.entries) where
    abbrev pages : List ℕ
    pages = text_of_pages (woven_pages (numbers_printed lines) typed.pages.entries)

    -- the text that is left is what is woven where all is whole, and else it begins that
    left-whole : typed.whole ≡ true → text_left (numbers_printed lines) typed ≡ text
    left-whole is =
        ap (λ b. pages ++ cond b (closing_lines typed.sessions.entries) []) is
        ∙ ap (λ t. pages ++ t) (sym (woven_so.closed is)) ∙ sym woven_so.is

    left-front : (whole : Bool) → typed.whole ≡ whole
        → (more : List ℕ) × (text ≡ text_left (numbers_printed lines) typed ++ more)
    left-front true is = ([], sym (left-whole is) ∙ sym (append-nil (text_left (numbers_printed lines) typed)))
    left-front false is = (
      woven_so.rest,
      woven_so.is
          ∙ ap (λ t. t ++ woven_so.rest)
          (sym (ap (λ b. pages ++ cond b (closing_lines typed.sessions.entries) []) is ∙ append-nil pages)),
    )

    -- what workers left that have all run
    prints-left : (ended : Ended) → LeavesPages (numbers_printed lines) typed ended out
        → (typed.whole ≡ true → LeadFrom table said 0 (tasks_of lines) × EndFrom table said 0 (tasks_of lines))
        → PrintsWoven ended
    prints-left (Ok done) leaves all = record {
      taken = (all leaves.all).1;
      leads = (all leaves.all).0;
      prints = subst (λ t. LeavesPrinted (encode_utf8_all t) (Ok tt) out) (left-whole leaves.all) leaves.prints;
    }
    prints-left (Err fault) leaves all =
        let left = text_left (numbers_printed lines) typed in
        let (more, is) = left-front typed.whole refl in
        record {
          taken = tt;
          leads = tt;
          prints = printed-fault (encode_utf8_all text) (Err fault) fault out refl
              (subst (AppendsPrefix out.written out.written')
              (sym (ap encode_utf8_all is ∙ encodes-append left more))
              (AppendsPrefix-more out.written out.written' (encode_utf8_all left) (encode_utf8_all more)
              leaves.prints.prefix)) leaves.prints.stopped leaves.prints.counted;
        }

  -- by how the work ended
  pub prints-woven : (typed : Result Typed no_memory) (ended : Ended) (numbers : List ℕ) (dialogs : List Dialog)
      → AreCallers said numbers dialogs → WorkedBy table (tasks_of lines) 0 typed numbers dialogs
      → IfOk typed (λ left. LeavesPages (numbers_printed lines) left ended out)
      → OnErr typed ((ended ≡ Err Memory) × Keeps out.written out.written') → out.faults ≤ out.faults'
      → ((whole : Bool) (pages : PageMap) (sessions : SessionMap)
      → AreDone table whole (tasks_of lines) dialogs pages sessions
      → AreWoven table lines (answers_by said (tasks_of lines)) whole pages sessions)
      → ((pages : PageMap) (sessions : SessionMap) → AreDone table true (tasks_of lines) dialogs pages sessions
      → LeadFrom table said 0 (tasks_of lines) × EndFrom table said 0 (tasks_of lines))
      → PrintsWoven ended
  prints-woven (Err lost) ended numbers dialogs callers worked some none counted woven_law end_law =
      prints-none ended none.0 none.1 counted
  prints-woven (Ok typed) ended numbers dialogs callers worked some none counted woven_law end_law =
      prints-left typed (woven_law typed.whole typed.pages.entries typed.sessions.entries worked.done) ended some
      (λ whole. end_law typed.pages.entries typed.sessions.entries
      (subst (λ b. AreDone table b (tasks_of lines) dialogs typed.pages.entries typed.sessions.entries) whole
      worked.done))

-- lines that were typed by callers that are closed then
pub weaves-closed : {D : Type 0} (opening : Opening) (table : List Rule) (lines : List Line) (typed : Ended)
    (chronicle : List Noted) (left : D) (tally : Tally) (out : MovedSink) (disk : DiskNow)
    (numbers : List ℕ) (dialogs : List Dialog)
    → AreCallers (said_in chronicle) numbers dialogs → HaveAsked table (tasks_of lines) dialogs
    → AskFrom table (said_in chronicle) 0 (tasks_of lines)
    → PrintsWoven table lines (said_in chronicle) out typed
    → IsLegalOver opening chronicle → KeepsDisk opening chronicle disk
    → tally ≡ tally_of opening.state (history_of chronicle)
    → (are_served chronicle ≡ true
    → ((number : ℕ) → length (tasks_of lines) ≤ number → said_in chronicle number ≡ [])
    → LeadFrom table (said_in chronicle) 0 (tasks_of lines) → are_apart opening.state lines ≡ true
    → woven table [] (answers_by (said_in chronicle) (tasks_of lines)) lines
    ≡ printed_alone opening.files opening.state (typing table [] lines))
    → WeavesLines opening table lines
    (record { ended = ended_by typed tally; chronicle = chronicle; disk = left }) out disk
weaves-closed opening table lines typed chronicle left tally out disk numbers dialogs callers asks asks_from prints
    legal keeps counts alone_law =
    work-closed opening chronicle left tally out disk keeps counts
    (KeepsCallers opening table (tasks_of lines) chronicle) (EndFrom table (said_in chronicle) 0 (tasks_of lines))
    (woven table [] (answers_by (said_in chronicle) (tasks_of lines)) lines)
    (are_apart opening.state lines ≡ true → Appends out.written out.written' (typed_alone opening table lines)) typed
    (record { legal = legal; asks = asks_from; strangers = strangers }) prints.taken prints.prints (alone typed prints)
  where
    strangers : (number : ℕ) → length (tasks_of lines) ≤ number → said_in chronicle number ≡ []
    strangers number behind =
        callers.strangers number (omega (
          arith,
          behind,
          asked-few table (tasks_of lines) dialogs asks,
          ap length callers.said_by,
          length-map numbers (said_in chronicle),
        ))

    alone : (typed : Ended) → PrintsWoven table lines (said_in chronicle) out typed
        → OnOk typed (are_served chronicle ≡ true → are_apart opening.state lines ≡ true
        → Appends out.written out.written' (typed_alone opening table lines))
    alone (Ok done) prints = λ all apart.
        subst (λ t. Appends out.written out.written' (encode_utf8_all t))
        (alone_law all strangers prints.leads apart) prints.prints.whole
    alone (Err fault) prints = tt
