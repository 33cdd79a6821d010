-- What the playing of a load's lines leaves, of what its parts leave.
use Rattle.std.proofs.Common.{◌≡◌, ◌≤◌, ◌+◌, ◌∙◌, ap, ap₂, sym, subst, refl, rules, ℕ, Bool, true, false, cond, ◌==◌}
use Rattle.std.proofs.Common.{unwrap_or, Option, None, IsSome}
use Rattle.std.proofs.Common.{Some, Result, Ok, Err, OnOk, OnErr, List, [], ◌∷◌, ◌++◌, min, encode_utf8_all, arith}
use Rattle.std.proofs.lemmas.Bool.{and_parts, eqb-true}
use Rattle.std.proofs.lemmas.List.Sums.{sum_by-cons}
use Rattle.std.specs.Io.KnownBytes.{Appends, Keeps}
use Rattle.std.specs.List.{cons_option, list_all, sum_by}
use Rattle.skk_outside.specs.Moved.{MovedSink}
use Rattle.romaji_rules.specs.Standard.{standard}
use Rattle.skk_text.specs.Counts.{last_count}
use Rattle.skk_text.specs.Text.{byte_len}
use Rattle.skk_text.specs.declared.memory.Memory.{Memory as no_memory}
use Rattle.skk_calls.specs.declared.chronicle.Noted.{Noted}
use Rattle.skk_calls.specs.declared.entry.Entry.{Entry}
use Rattle.skk_calls.specs.Chronicles.{history_of}
use Rattle.skk_calls.specs.Dictionary.{after}
use Rattle.skk_calls.specs.Histories.{Opening, dialog}
use Rattle.skk_calls.specs.InteractionLaws.{led-asked, led-end}
use Rattle.skk_calls.specs.Interactions.{Interaction, ends, Dialog, Leads}
use Rattle.skk_calls.specs.Interactions.{answers_of, asked, calls_of, end_of}
use Rattle.skk_calls.specs.Openings.{IsLegalOver, said_in, are_of_one, are_served}
use Rattle.skk_calls.specs.Tallies.{Tally, tally_of}
use Rattle.session_machine.specs.Session.{Session, text_of}
use Rattle.script_typing.specs.Playing.{playing, sessions_behind}
use Rattle.script_typing.specs.PlayingLaws.{entries_by, led-alone}
use Rattle.script_typing.specs.Sessions.{SessionMap}
use Rattle.command_line.specs.declared.command.LoadOptions.{LoadOptions}
use Rattle.caller_work.specs.Disks.{DiskNow, KeepsDisk}
use Rattle.skk_top.specs.LoadCommand.{load_lines, loaded_from, number_line, summed, LoadsLines}
use Rattle.run_endings.specs.Page.{LeavesPrinted}
use Rattle.script_typing.specs.LineLaws.{runs-alone}
use Rattle.script_typing.specs.Lines.{PlaysLines}
use Rattle.skk_top.specs.TypeCommand.{KeepsChronicle}
use Rattle.run_endings.specs.Status.{Ended, ended_by}
use Rattle.run_endings.specs.declared.fault.RunFault.TheVariants.{Memory}
use Rattle.skk_top.proofs.PrintedChecks.{more}
use Rattle.skk_top.proofs.LinesWork.{always, work-closed, work-lost}
use Rattle.skk_top.proofs.Served.{answered_alone}

-- Numbers

-- what is added up as far as a number can tell, and then more, is all as far as it can tell
pub added-up : (before first rest last : ℕ)
    → min (min (before + first) last + rest) last ≡ min (before + (first + rest)) last
added-up before first rest last = omega arith

-- one session more in a count of bytes
pub bytes-on : (rest next : SessionMap) (entry : ℕ × Session) (before after added all : ℕ) → rest ≡ entry ∷ next
    → added ≡ byte_len (text_of entry.1) → after ≡ min (before + added) last_count
    → min (before + sum_by (λ e. byte_len (text_of e.1)) rest) last_count ≡ all
    → min (after + sum_by (λ e. byte_len (text_of e.1)) next) last_count ≡ all
bytes-on rest next entry before after added all is long sum kept =
    let f : ℕ × Session → ℕ = λ e. byte_len (text_of e.1) in
    ap (λ n. min (n + sum_by f next) last_count) (sum ∙ ap (λ n. min (before + n) last_count) long)
    ∙ added-up before (f entry) (sum_by f next) last_count
    ∙ ap (λ n. min (before + n) last_count) (sym (ap (sum_by f) is ∙ sum_by-cons f entry next)) ∙ kept

-- and where no session is left the count is whole
pub bytes-done : (rest : SessionMap) (bytes all : ℕ) → rest ≡ [] → bytes ≤ last_count
    → min (bytes + sum_by (λ e. byte_len (text_of e.1)) rest) last_count ≡ all → bytes ≡ all
bytes-done rest bytes all is few kept =
    let f : ℕ × Session → ℕ = λ e. byte_len (text_of e.1) in
    let none : sum_by f rest ≡ 0 = ap (sum_by f) is in
    let same : bytes ≡ min (bytes + sum_by f rest) last_count = omega (arith, few, none) in
    same ∙ kept

-- The summary

-- a line of a word and a number behind a page
pub line-pushed : (page next word word' : List ℕ) (number number' : ℕ) → next ≡ page ++ number_line word number
    → word ≡ word' → number ≡ number' → next ≡ page ++ number_line word' number'
line-pushed page next word word' number number' is words numbers =
    is ∙ ap₂ (λ w n. page ++ number_line w n) words numbers

-- five lines behind a page
pub five-pushed : (page first second third fourth fifth a b c d e : List ℕ) → first ≡ page ++ a → second ≡ first ++ b
    → third ≡ second ++ c → fourth ≡ third ++ d → fifth ≡ fourth ++ e
    → fifth ≡ page ++ (a ++ (b ++ (c ++ (d ++ e))))
five-pushed page first second third fourth fifth a b c d e is-a is-b is-c is-d is-e =
    is-e ∙ more third d e fourth is-d ∙ more second c (d ++ e) third is-c ∙ more first b (c ++ (d ++ e)) second is-b
    ∙ more page a (b ++ (c ++ (d ++ e))) first is-a

-- Where the dictionary of one thread answers

-- a history of the caller with the number 0 has the entries of what that says
of-one : (history : List Entry) → list_all (λ entry. entry.number == 0) history ≡ true
    → history ≡ entries_by 0 (dialog history 0)
of-one [] one = refl
of-one (entry ∷ history) one = by (entry.number == 0) refl (of-one history ones.1)
  where
    ones : ((entry.number == 0) ≡ true) × (list_all (λ other. other.number == 0) history ≡ true)
    ones = and_parts (entry.number == 0) (list_all (λ other. other.number == 0) history) one

    by : (b : Bool) → (entry.number == 0) ≡ b → history ≡ entries_by 0 (dialog history 0)
        → entry ∷ history
        ≡ entries_by 0 (cons_option (cond b (Some (entry.call, entry.answer)) None) (dialog history 0))
    by true own rest =
        ap (λ n. record { number = n; call = entry.call; answer = entry.answer } ∷ history)
        (eqb-true entry.number 0 ones.0)
        ∙ ap (λ h. record { number = 0; call = entry.call; answer = entry.answer } ∷ h) rest
    by false differs rest = absurd (cc (sym ones.0 ∙ differs))

-- What is left

-- lines that were played by one caller that is closed then, by how they were played
pub loads-closed : {D : Type 0} (options : LoadOptions) (opening : Opening) (chronicle : List Noted) (left : D)
    (tally : Tally) (sessions : SessionMap) (out : MovedSink) (disk : DiskNow) → IsLegalOver opening chronicle
    → are_of_one chronicle ≡ true → KeepsDisk opening chronicle disk
    → tally ≡ tally_of opening.state (history_of chronicle)
    → (played : Result (Unit {0}) no_memory) (ended : Ended)
    → PlaysLines standard (load_lines options) played [] sessions [] (said_in chronicle 0)
    → OnOk played (LeavesPrinted (encode_utf8_all (summed options tally sessions)) ended out)
    → OnErr played ((ended ≡ Err Memory) × Keeps out.written out.written') → out.faults ≤ out.faults'
    → LoadsLines options opening (record { ended = ended_by ended tally; chronicle = chronicle; disk = left }) out disk
loads-closed options opening chronicle left tally sessions out disk legal one keeps counts played ended plays some none
    counted =
    by played plays some none
  where
    lines : Interaction SessionMap
    lines = playing standard [] (load_lines options)

    said : Dialog
    said = said_in chronicle 0

    text : SessionMap → List ℕ
    text behind = summed options (tally_of opening.state (history_of chronicle)) behind

    -- what was printed is what is printed where the dictionary of one thread answers
    alone : Leads lines said [] (ends sessions) → (ended : Ended)
        → LeavesPrinted (encode_utf8_all (text sessions)) ended out → OnOk ended (are_served chronicle ≡ true
        → Appends out.written out.written' (loaded_from opening.files opening.state options))
    alone led (Ok done) prints = λ all.
        let both =
        led-alone sessions opening.files opening.state led
        (answered_alone opening (history_of chronicle) legal.1 all one) in
        subst (Appends out.written out.written')
        (ap₂ (λ (h : List Entry) (s : SessionMap). encode_utf8_all (summed options (tally_of opening.state h) s))
        (of-one (history_of chronicle) one ∙ sym both.0) (sym both.1)) prints.whole
    alone led (Err fault) prints = tt

    by : (played : Result (Unit {0}) no_memory)
        → PlaysLines standard (load_lines options) played [] sessions [] said
        → OnOk played (LeavesPrinted (encode_utf8_all (summed options tally sessions)) ended out)
        → OnErr played ((ended ≡ Err Memory) × Keeps out.written out.written')
        → LoadsLines options opening (record { ended = ended_by ended tally; chronicle = chronicle; disk = left }) out
        disk
    by (Ok done) plays some none =
        let ran = runs-alone {E = no_memory} (playing standard) (load_lines options) (Ok tt) [] sessions plays in
        let (to, is, way) = ran.led tt in
        let led : Leads lines said [] (ends sessions) =
        subst (λ (d : Dialog). Leads lines d [] (ends sessions)) (sym ran.grows)
        (subst (λ t. Leads lines ran.dialog t (ends sessions)) ran.put
        (subst (λ i. Leads lines ran.dialog ran.text i) is way)) in
        let behind : end_of lines (answers_of said) ≡ Some sessions = led-end led in
        let is_there : IsSome (Some sessions) = search rules in
        let prints = subst (λ (t : Tally). LeavesPrinted (encode_utf8_all (summed options t sessions)) ended out) counts
        some in
        work-closed opening chronicle left tally out disk keeps counts (KeepsChronicle opening lines chronicle)
        (IsSome (end_of lines (answers_of said)))
        (text (sessions_behind standard (load_lines options) (answers_of said)))
        (Appends out.written out.written' (loaded_from opening.files opening.state options)) ended
        (record { legal = legal; one = one; asks = led-asked led })
        (always ended (subst (λ (o : Option SessionMap). IsSome o) (sym behind) is_there))
        (subst (λ (s : SessionMap). LeavesPrinted (encode_utf8_all (text s)) ended out)
        (sym (ap (λ o. unwrap_or o []) behind)) prints)
        (alone led ended prints)
    by (Err lost) plays some none =
        let ran = runs-alone {E = no_memory} (playing standard) (load_lines options) (Err lost) [] sessions plays in
        let (to, any, way) = ran.led tt in
        work-lost opening chronicle left tally out disk keeps counts (KeepsChronicle opening lines chronicle)
        (IsSome (end_of lines (answers_of said)))
        (text (sessions_behind standard (load_lines options) (answers_of said)))
        (Appends out.written out.written' (loaded_from opening.files opening.state options)) ended
        (record {
          legal = legal;
          one = one;
          asks = subst (λ (d : Dialog). asked lines (answers_of d) ≡ calls_of d) (sym ran.grows) (led-asked way);
        }) none.0 none.1 counted
