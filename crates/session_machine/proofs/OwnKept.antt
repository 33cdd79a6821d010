-- A session that is a typist's own asks the typist's own calls alone, and stays so.
use Rattle.std.proofs.Common.{◌≡◌, ◌-◌, ◌∙◌, sym, ap, ℕ, slice_get, Bool, true, None, Some}
use Rattle.std.proofs.Common.{Option, List, [], ◌∷◌, length, refl, arith, zero, suc}
use Rattle.std.proofs.lemmas.Bool.{eq-eqb}
use Rattle.std.proofs.lemmas.List.Folds.{list_all-append}
use Rattle.std.specs.List.{list_all}
use Rattle.skk_text.specs.PairsLaws.{list_all-take}
use Rattle.skk_text.specs.Text.{byte_len, without_last}
use Rattle.skk_calls.specs.declared.answer.Answer.{Answer}
use Rattle.skk_calls.specs.declared.answer.Answer.TheVariants.{Done, Refused}
use Rattle.skk_calls.specs.declared.answer.Reply.TheVariants as replies
use Rattle.dict_laws.specs.OwnBooks.{is_own, gives_own}
use Rattle.session_machine.specs.Answered.{learnt_by}
use Rattle.session_machine.specs.declared.frame.Choice.{Choice}
use Rattle.session_machine.specs.declared.frame.OuterFrame.{OuterFrame}
use Rattle.session_machine.specs.OwnSessions.{is_own_learning, is_own_choice, IsOwn}
use Rattle.session_machine.specs.Registrations.{outside}
use Rattle.session_machine.specs.Session.{choice_within}
use Rattle.session_machine.proofs.Kept.{Keeps}

module _ (typist : ℕ) where
  -- what is learnt by an answer is of the typist's book where the answer gives own learnings
  learnt_own : (given : Answer) → gives_own typist given ≡ true → is_own_learning typist (learnt_by given) ≡ true
  learnt_own (Done (replies.Learned learned)) own = own
  learnt_own (Done reply) own = refl
  learnt_own (Refused refusal) own = refl

  -- a choice that is given up where the text is shorter is the own one, or none
  within_own : (bytes : ℕ) (choice : Option Choice) → is_own_choice typist choice ≡ true
      → is_own_choice typist (choice_within bytes choice) ≡ true
  within_own bytes None own = refl
  within_own bytes (Some choice) own = grind (arith, own)

  -- what a frame outside keeps is of the typist's book
  abbrev outer_own : OuterFrame → Bool
  outer_own frame = is_own_choice typist frame.last_choice

  -- so does the innermost of them where all do
  innermost_own : (frames : List OuterFrame) (n : ℕ) (frame : OuterFrame) → slice_get frames n ≡ Some frame
      → list_all outer_own frames ≡ true
      → is_own_choice typist frame.last_choice ≡ true
  innermost_own [] n frame is all = cc
  innermost_own (first ∷ frames) zero frame is all = grind (arith, is)
  innermost_own (first ∷ frames) (suc n) frame is all = grind (arith, innermost_own frames n frame is)

  -- each change that keys make of a session leaves it the typist's own
  pub own-kept : Keeps (λ call. is_own typist call ≡ true) (λ given. gives_own typist given ≡ true) (IsOwn typist)
  own-kept = record {
    looks_up = λ session key okuri own. eq-eqb session.typist typist own.0;
    completes = λ session prefix own. eq-eqb session.typist typist own.0;
    learns = λ session key okuri cand own. eq-eqb session.book typist own.1;
    purges = λ session key word own. eq-eqb session.book typist own.1;
    annotates = λ session key cand own. eq-eqb session.book typist own.1;
    unlearns = λ session choice learned own is was.
        ap (is_own_learning typist) (sym was) ∙ ap (is_own_choice typist) (sym is) ∙ own.2;
    noticed = λ session notice own. own;
    stated = λ session state own. own;
    moded = λ session mode own. own;
    longer = λ session piece room own. own;
    shorter = λ session own. (
      own.0,
      own.1,
      within_own (byte_len (without_last session.frame.text)) session.frame.last_choice own.2,
      own.3,
    );
    unchosen = λ session count own. (own.0, own.1, refl, own.3);
    chosen = λ session choice given is gives own.
        (own.0, own.1, ap (is_own_learning typist) is ∙ learnt_own given gives, own.3);
    opened = λ session waiting room own. (
      own.0,
      own.1,
      refl,
      grind (arith, own.2, own.3, list_all-append outer_own session.outer (outside session.frame waiting ∷ [])),
    );
    closed = λ session frame is own. (
      own.0,
      own.1,
      innermost_own session.outer (length session.outer - 1) frame is own.3,
      list_all-take outer_own (length session.outer - 1) session.outer own.3,
    );
    ended = λ session frame piece is room own. (
      own.0,
      own.1,
      refl,
      list_all-take outer_own (length session.outer - 1) session.outer own.3,
    );
  }
