-- What is printed and sent where a server is asked, at small examples, each worked out by hand.
use Rattle.std.proofs.Common.{◌≡◌, List, [], ◌∷◌, ◌++◌, map, codes, refl, ℕ}
use lib.Utf8.{encode}
use Rattle.skk_calls.specs.Rows.{Cand}
use Rattle.skkserv_client.specs.declared.told.Told.TheVariants.{Cands, Readings}
use Rattle.run_endings.specs.Status.{fault_of_asking}
use Rattle.run_endings.specs.declared.fault.RunFault.TheVariants.{Reply}
use Rattle.run_endings.specs.declared.reply_flaw.ReplyFlaw.TheVariants as flaws
use Rattle.command_line.specs.declared.command.Question.TheVariants as questions
use Rattle.skk_top.specs.AskCommand.{asked_of, fault_of_flaw, sent_for, told_lines}

-- a candidate
abbrev cand : List ℕ → List ℕ → Cand
cand word note = record { word = word; note = note }

lines : map told_lines (Cands [] ∷ Readings [] ∷ Cands (cand (codes "a") [] ∷ cand (codes "b/") (codes "c") ∷ [])
    ∷ Readings (codes "a" ∷ codes "b;c" ∷ []) ∷ [])
    ≡ [] ∷ [] ∷ (codes "a" ++ 10 ∷ codes "(concat \"b\\057\");c" ++ 10 ∷ [])
    ∷ (codes "a" ++ 10 ∷ codes "b;c" ++ 10 ∷ []) ∷ []
lines = refl

sent : map sent_for (map asked_of (questions.Look (codes "a") ∷ questions.Complete (codes "bc") ∷ []))
    ≡ codes "1a 0" ∷ codes "4bc 0" ∷ []
unfolding encode
sent = refl

-- each flaw is told of the fault that it stands for
told_back : map (λ flaw. fault_of_asking (fault_of_flaw flaw))
    (flaws.TooLong ∷ flaws.Ended 4 ∷ flaws.Refused ∷ flaws.Bad 3 ∷ [])
    ≡ Reply flaws.TooLong ∷ Reply (flaws.Ended 4) ∷ Reply flaws.Refused ∷ Reply (flaws.Bad 3) ∷ []
told_back = refl
