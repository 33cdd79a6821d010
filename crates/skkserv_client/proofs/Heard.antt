-- What was heard of a server is what all its bytes tell.
use Rattle.std.proofs.Common.{◌≡◌, ◌≢◌, ◌∙◌, ◌==◌, ℕ, Bool, true, false, if◌then◌else◌, Option, None, Some, Result, Ok}
use Rattle.std.proofs.Common.{Err}
use Rattle.std.proofs.Common.{List, [], ◌∷◌, IsErrAnd, IsErrOf, ap, inl, inr, rules, subst, sym}
use Rattle.std.specs.Str.{is_utf8}
use Rattle.std.specs.Str.Lossy.{utf8_valid_len}
use Rattle.skk_text.specs.Characters.{code}
use Rattle.skk_text.specs.Results.{AnswersUnless}
use Rattle.exact_readers.specs.Lines.{without_return}
use Rattle.skkserv_client.specs.declared.question.Ask.{Ask}
use Rattle.skkserv_client.specs.declared.question.Ask.TheVariants.{Look, Complete}
use Rattle.skkserv_client.specs.declared.told.AskFault.{AskFault}
use Rattle.skkserv_client.specs.declared.told.AskFault.TheVariants as faults
use Rattle.skkserv_client.specs.declared.told.Told.{Told}
use Rattle.skkserv_client.specs.Hearing.{HearsLine, HearsReply, TellsUnless}
use Rattle.skkserv_client.specs.Replies.{first_long, if_line, if_none_long, if_texts, line_of, nothing_told}
use Rattle.skkserv_client.specs.Replies.{texts_of_line, told_by, told_by_line, told_by_list, told_by_texts}

-- what is wanted is told
tells-is : (result wanted : Result Told AskFault) → result ≡ wanted → TellsUnless result wanted
tells-is (Ok told) wanted is = is
tells-is (Err faults.LinkFault) wanted is = tt
tells-is (Err faults.TooLong) wanted is = is
tells-is (Err (faults.Ended read)) wanted is = is
tells-is (Err faults.Refused) wanted is = is
tells-is (Err (faults.BadReply at)) wanted is = is
tells-is (Err faults.Memory) wanted is = tt

-- bytes without a line tell why there is none
fault-told : (what : Ask) (bytes : List ℕ) (fault : AskFault) → TellsUnless {X = List ℕ} (Err fault) (line_of bytes)
    → TellsUnless {X = Told} (Err fault) (told_by what bytes)
unfolding told_by
fault-told what bytes faults.LinkFault is = tt
fault-told what bytes faults.TooLong is = ap (if_line what) is
fault-told what bytes (faults.Ended read) is = ap (if_line what) is
fault-told what bytes faults.Refused is = ap (if_line what) is
fault-told what bytes (faults.BadReply at) is = ap (if_line what) is
fault-told what bytes faults.Memory is = tt

module _ (left left' : Option (List ℕ)) (same : left' ≡ left) (what : Ask) where
  -- no line was heard
  pub hears-fault : (result : Result Told AskFault) (fault : AskFault) → IsErrAnd result (λ handed. handed ≡ fault)
      → HearsLine left' [] (Err fault) → HearsReply left what result
  hears-fault (Ok told) fault is heard = absurd (search (rules, is))
  hears-fault (Err handed) fault is heard =
      subst (λ (f : AskFault). HearsReply left what (Err f)) (sym is)
      (by left (subst (λ (l : Option (List ℕ)). HearsLine l [] (Err fault)) same heard))
    where
      by : (l : Option (List ℕ)) → HearsLine l [] (Err fault) → HearsReply l what (Err fault)
      by None h = tt
      by (Some bytes) h = fault-told what bytes fault h

  -- a line was heard, and told of
  pub hears-told : (line told_of : List ℕ) (result : Result Told AskFault) → HearsLine left' [] (Ok line)
      → told_of ≡ without_return line → AnswersUnless faults.Memory result (told_by_line what told_of)
      → HearsReply left what result
  unfolding told_by
  hears-told line told_of result heard is answers =
      by left (subst (λ (l : Option (List ℕ)). HearsLine l [] (Ok line)) same heard) answers
    where
      by : (l : Option (List ℕ)) → HearsLine l [] (Ok line)
          → AnswersUnless faults.Memory result (told_by_line what told_of) → HearsReply l what result
      by None h a = tt
      by (Some bytes) h (inl memory) =
          subst (λ (r : Result Told AskFault). TellsUnless r (told_by what bytes)) (sym memory) tt
      by (Some bytes) h (inr e) =
          tells-is result (told_by what bytes)
          (e ∙ ap (told_by_line what) is ∙ sym (ap (if_line what) h))

-- The link

-- what a line tells is no fault of the link
never-texts : (what : Ask) (texts : List (List ℕ)) → told_by_texts what texts ≢ Err faults.LinkFault
unfolding told_by_texts
never-texts (Look reading) texts e = by (first_long 2 texts) e
  where
    by : (found : Option ℕ) → if_none_long found texts ≢ Err faults.LinkFault
    by None f = cc
    by (Some at) f = cc
never-texts (Complete prefix) texts e = cc

never-listed : (what : Ask) (line : List ℕ) → told_by_list what line ≢ Err faults.LinkFault
unfolding told_by_list
never-listed what line e = by (is_utf8 line) (texts_of_line line) e
  where
    by : (text : Bool) (found : Option (List (List ℕ)))
        → (if text then if_texts what found else Err (faults.BadReply (utf8_valid_len line))) ≢ Err faults.LinkFault
    by false found f = cc
    by true None f = cc
    by true (Some texts) f = never-texts what texts f

never-line : (what : Ask) (line : List ℕ) → told_by_line what line ≢ Err faults.LinkFault
unfolding told_by_line
never-line what [] e = cc
never-line what (first ∷ rest) e = by (first == code "0") (first == code "1") (first == code "4") e
  where
    by : (refuses lists lacks : Bool)
        → (if refuses then Err faults.Refused
        else if lists then told_by_list what (first ∷ rest)
        else if lacks then Ok (nothing_told what)
        else Err (faults.BadReply 0)) ≢ Err faults.LinkFault
    by true lists lacks f = cc
    by false true lacks f = never-listed what (first ∷ rest) f
    by false false true f = cc
    by false false false f = cc

pub link-stood : {P : Type 0} (what : Ask) (line : List ℕ) (result : Result Told AskFault)
    → AnswersUnless faults.Memory result (told_by_line what line) → IsErrOf result faults.LinkFault → P
link-stood what line result (inl memory) is =
    let wrong : ◌≡◌ {A = Result Told AskFault} (Err faults.LinkFault) (Err faults.Memory) = sym is ∙ memory in
    absurd (cc)
link-stood what line result (inr same) is = absurd (never-line what line (sym same ∙ is))
