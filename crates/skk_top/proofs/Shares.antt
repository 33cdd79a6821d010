-- What the giving of a list of books leaves.
use Rattle.std.proofs.Common.{◌≡◌, ◌∙◌, ◌==◌, ap, sym, subst, refl, arith, ℕ, Bool, true, false, cond, None, Some}
use Rattle.std.proofs.Common.{Ok, Err, OnOk, IsErrAnd, List, [], ◌∷◌, ◌++◌, append-nil, encode_utf8_all, nat_lt, rules}
use Rattle.std.specs.Io.KnownBytes.{Appends, Keeps}
use Rattle.std.specs.List.{list_all}
use Rattle.std.proofs.lemmas.Bool.{cond_both}
use Rattle.std.proofs.lemmas.Bool.Decides.{nat_tests}
use Rattle.std.proofs.lemmas.Slice.Eq.{bytes_eq-Decides}
use Rattle.skk_outside.specs.Moved.{MovedSink}
use Rattle.skk_calls.specs.declared.answer.Answer.TheVariants.{Done, Refused}
use Rattle.skk_calls.specs.declared.answer.Refusal.{Refusal}
use Rattle.skk_calls.specs.declared.answer.Reply.{Reply}
use Rattle.skk_calls.specs.declared.answer.Reply.TheVariants as replies
use Rattle.skk_calls.specs.declared.book_list.TypistList.{TypistList}
use Rattle.skk_calls.specs.declared.call.Call.TheVariants.{Share}
use Rattle.skk_calls.specs.declared.chronicle.Noted.{Noted}
use Rattle.skk_calls.specs.declared.entry.Entry.{Entry}
use Rattle.skk_calls.specs.BookLists.{same_numbers, shared_alone}
use Rattle.skk_calls.specs.Chronicles.{history_of}
use Rattle.skk_calls.specs.Dictionary.{after, is_change}
use Rattle.skk_calls.specs.Histories.{Opening, after_calls, after_entry, dialog, state_after}
use Rattle.skk_calls.specs.Interactions.{Dialog, Interaction, ends, asking, printing, here, asked, printed, end_of}
use Rattle.skk_calls.specs.Interactions.{answers_of}
use Rattle.skk_calls.specs.Interactions.{calls_of, IsAnsweredAlone}
use Rattle.skk_calls.specs.Openings.{IsLegalOver, said_in, are_of_one, are_served, is_reply}
use Rattle.skk_calls.specs.Orders.{insert_by}
use Rattle.skk_calls.specs.Rows.{Row}
use Rattle.skk_calls.specs.States.{State, list_in, listed_books, shared_books, state_listed, without_list}
use Rattle.skk_calls.specs.Tallies.{Tally, tally_of}
use Rattle.command_line.specs.declared.command.ShareOptions.{ShareOptions}
use Rattle.caller_work.specs.Disks.{DiskNow, KeepsDisk}
use Rattle.script_typing.specs.Lines.{at_if_done}
use Rattle.run_endings.specs.Page.{LeavesPrinted}
use Rattle.run_endings.specs.PageLaws.{Appends-none}
use Rattle.run_endings.specs.Status.{Ended, ended_by}
use Rattle.run_endings.specs.declared.fault.RunFault.{RunFault}
use Rattle.run_endings.specs.declared.fault.RunFault.TheVariants.{Memory}
use Rattle.skk_top.specs.ShareCommand.{SharesList, SharesOut, TellsList, list_line, sharing, told}
use Rattle.skk_top.specs.TypeCommand.{KeepsChronicle}
use Rattle.skk_top.proofs.LinesWork.{printed-none, work-closed}
use Rattle.skk_top.proofs.Runs.{out-told}
use Rattle.skk_top.proofs.Served.{answered_alone}

-- The list that stands behind the call

-- a list that is put among others is the typist's, and where it is taken away there is none
list-put : (list : TypistList) (lists : List TypistList)
    → list_in list.typist (insert_by (λ l other. nat_lt l.typist other.typist) list (without_list list.typist lists))
    ≡ Some list
list-put list [] = grind (arith, nat_tests)
list-put list (first ∷ lists) = grind (arith, nat_tests, list-put list lists)

list-gone : (typist : ℕ) (lists : List TypistList) → list_in typist (without_list typist lists) ≡ None
list-gone typist [] = refl
list-gone typist (first ∷ lists) = grind (arith, nat_tests, list-gone typist lists)

listed-after : (state : State) (typist : ℕ) (books : List ℕ)
    → shared_books (state_listed state typist books) typist ≡ books
listed-after state typist books =
    let list : TypistList = record { typist = typist; books = books } in
    cond_both (same_numbers books shared_alone) (without_list typist state.lists)
    (insert_by (λ l other. nat_lt l.typist other.typist) list (without_list typist state.lists))
    (λ lists. listed_books (list_in typist lists) ≡ books)
    (λ same. ap listed_books (list-gone typist state.lists) ∙ sym ((bytes_eq-Decides books shared_alone).0 same))
    (λ _. ap listed_books (list-put list state.lists))

-- behind the call the typist has the books of the call, also where that changed nothing
pub shared-after : (state : State) (typist : ℕ) (books : List ℕ)
    → shared_books (after state (Share typist books)) typist ≡ books
shared-after state typist books = by (same_numbers (shared_books state typist) books) refl
  where
    by : (b : Bool) → same_numbers (shared_books state typist) books ≡ b
        → shared_books (cond (is_change (cond b replies.Unchanged replies.Shared)) (state_listed state typist books)
        state) typist ≡ books
    by true same = (bytes_eq-Decides (shared_books state typist) books).0 same
    by false other = listed-after state typist books

-- The one call

-- what was done by just the one call made that, and printed the line
one-call : (files : List (List Row)) (state : State) (typist : ℕ) (books : List ℕ) (said : Dialog)
    → end_of (sharing typist books) (answers_of said) ≡ Some tt
    → asked (sharing typist books) (answers_of said) ≡ calls_of said → IsAnsweredAlone files state said
    → (calls_of said ≡ Share typist books ∷ []) × (printed (sharing typist books) (answers_of said)
    ≡ list_line typist books)
one-call files state typist books [] ended asks alone = absurd (cc)
one-call files state typist books ((call, Done reply) ∷ []) ended asks alone =
    (sym asks, append-nil (list_line typist books))
one-call files state typist books ((call, Done reply) ∷ pair ∷ said) ended asks alone = absurd (cc)
one-call files state typist books ((call, Refused why) ∷ said) ended asks alone = absurd (cc)

-- the state behind a history of one caller of which no call was refused is that behind the calls
state-said : (state : State) (history : List Entry) → list_all (λ entry. is_reply entry.answer) history ≡ true
    → list_all (λ entry. entry.number == 0) history ≡ true
    → state_after state history ≡ after_calls state (calls_of (dialog history 0))
state-said state [] served one = refl
state-said state (entry ∷ history) served one =
    grind (arith, nat_tests, state-said (after_entry state entry) history)

-- What the giving leaves

-- the call was answered, and the line was printed as far as that went
pub list-told : (typist : ℕ) (books : List ℕ) (reply : Reply) (ended : Ended) (said said' : Dialog) (out : MovedSink)
    → said' ≡ said ++ (Share typist books, Done reply) ∷ []
    → LeavesPrinted (encode_utf8_all (list_line typist books)) ended out
    → SharesOut typist books ended said said' out
list-told typist books reply ended said said' out grows prints = record {
  dialog = (Share typist books, Done reply) ∷ [];
  text = list_line typist books ++ [];
  grows = grows;
  put =
      subst (λ text. LeavesPrinted (encode_utf8_all text) ended out) (sym (append-nil (list_line typist books))) prints;
  led = λ all. (
    ends tt,
    at-end (ends tt) all ended,
    asking (Share typist books) (told typist books) (Done reply) [] (list_line typist books ++ []) (ends tt)
        (printing (list_line typist books) (ends tt) [] [] (ends tt) (here (ends tt))),
  );
}
  where
    at-end : (place : Interaction (Unit {0})) (all : Unit {0}) (ended : Ended)
        → at_if_done ended (λ every. place) all place
    at-end place all (Ok done) = refl
    at-end place all (Err fault) = tt

-- the call was refused, and nothing was printed
pub list-refused : (typist : ℕ) (books : List ℕ) (why : Refusal) (said said' : Dialog) (out : MovedSink)
    → said' ≡ said ++ (Share typist books, Refused why) ∷ [] → out.written' ≡ out.written → out.faults' ≡ out.faults
    → SharesOut typist books (Ok tt) said said' out
list-refused typist books why said said' out grows unwritten quiet = record {
  dialog = (Share typist books, Refused why) ∷ [];
  text = [];
  grows = grows;
  put = record {
    whole = subst (λ new. Appends out.written new []) (sym unwritten) (Appends-none out.written);
    prefix = tt;
    stopped = tt;
    counted = omega (arith, quiet);
  };
  led = λ all. (
    ends tt,
    refl,
    asking (Share typist books) (told typist books) (Refused why) [] [] (ends tt) (here (ends tt)),
  );
}

-- memory was out for the line, and no call was made
pub list-unmade : (typist : ℕ) (books : List ℕ) (ended : Ended) (said : Dialog) (out : MovedSink)
    → IsErrAnd ended (λ fault. fault ≡ Memory) → Keeps out.written out.written' → out.faults' ≡ out.faults
    → SharesOut typist books ended said said out
list-unmade typist books (Ok done) said out lacks unwritten quiet = absurd (search (rules, lacks))
list-unmade typist books (Err fault) said out lacks unwritten quiet =
    subst (λ (f : RunFault). SharesOut typist books (Err f) said said out) (sym lacks) (record {
      dialog = [];
      text = [];
      grows = sym (append-nil said);
      put = printed-none [] out unwritten (omega (arith, quiet));
      led = λ all. (sharing typist books, tt, here (sharing typist books));
    })

-- what is left of that by a caller, which is closed then
pub list-closed : {D : Type 0} (options : ShareOptions) (opening : Opening) (ended : Ended)
    (chronicle : List Noted) (left : D) (tally : Tally) (out : MovedSink) (disk : DiskNow)
    → SharesOut options.typist options.books ended [] (said_in chronicle 0) out → IsLegalOver opening chronicle
    → are_of_one chronicle ≡ true → KeepsDisk opening chronicle disk
    → tally ≡ tally_of opening.state (history_of chronicle)
    → SharesList options opening (record { ended = ended_by ended tally; chronicle = chronicle; disk = left }) out disk
list-closed options opening ended chronicle left tally out disk shares legal one keeps counts =
    let told = out-told asking_list ended shares in
    work-closed opening chronicle left tally out disk keeps counts (KeepsChronicle opening asking_list chronicle)
    (end_of asking_list (answers_of said) ≡ Some tt) (printed asking_list (answers_of said))
    (TellsList options.typist options.books opening chronicle out) ended
    (record { legal = legal; one = one; asks = told.0 }) told.1 told.2 (tells ended told.1 told.0 told.2)
  where
    asking_list : Interaction (Unit {0})
    asking_list = sharing options.typist options.books

    said : Dialog
    said = said_in chronicle 0

    tells : (ended : Ended) → OnOk ended (end_of asking_list (answers_of said) ≡ Some tt)
        → asked asking_list (answers_of said) ≡ calls_of said
        → LeavesPrinted (encode_utf8_all (printed asking_list (answers_of said))) ended out
        → OnOk ended (are_served chronicle ≡ true
        → TellsList options.typist options.books opening chronicle out)
    tells (Ok done) taken asks prints = λ all.
        let call = one-call opening.files opening.state options.typist options.books said taken asks
        (answered_alone opening (history_of chronicle) legal.1 all one) in
        let books : shared_books (state_after opening.state (history_of chronicle)) options.typist ≡ options.books =
        ap (λ (state : State). shared_books state options.typist)
        (state-said opening.state (history_of chronicle) all one ∙ ap (after_calls opening.state) call.0)
        ∙ shared-after opening.state options.typist options.books in
        record {
          called = call.0;
          told =
              subst (λ text. Appends out.written out.written' (encode_utf8_all text))
              (call.1 ∙ ap (list_line options.typist) (sym books)) prints.whole;
        }
    tells (Err fault) taken asks prints = tt
