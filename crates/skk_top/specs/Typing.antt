-- How far the typing of lines has come in what they come to, and what it leaves.
use Rattle.std.specs.Prelude.{◌≤◌, ℕ, List, [], ◌++◌, OnOk, OnErr, IfErr, encode_utf8_all}
use Rattle.skk_outside.specs.Moved.{MovedSink}
use Rattle.skk_outside.specs.Written.{AppendsPrefix}
use Rattle.romaji_rules.specs.declared.rule.Rule.{Rule}
use Rattle.skk_calls.specs.Interactions.{Dialog, ends}
use Rattle.skk_calls.specs.Runs.{Runs}
use Rattle.key_scripts.specs.declared.line.Line.{Line}
use Rattle.script_typing.specs.Lines.{RunsThrough, at_if_done}
use Rattle.script_typing.specs.Sessions.{SessionMap}
use Rattle.script_typing.specs.Typed.{typing}
use Rattle.run_endings.specs.Page.{LeavesPrinted, Printed, StopsPrinting}
use Rattle.run_endings.specs.Status.{Ended}

-- what is typed so far: the sessions, a page that is not written yet, and what a caller has said
pub record Stand : Type 0 where
  pub sessions : SessionMap
  pub page : List ℕ
  pub said : Dialog

-- what is typed so far, by its parts
abbrev pub stand : SessionMap → List ℕ → Dialog → Stand
stand sessions page said = record { sessions = sessions; page = page; said = said }

-- what printing leaves in a sink and a page, by how it ends: what was written and the page are the text, or a prefix of
-- it was written, with the cause
pub record PrintsPage (text page : List ℕ) (ended : Ended) (out : MovedSink) : Type 0 where
  pub ok : OnOk ended (Printed out.written out.written' page [] text)
  pub err : OnErr ended (AppendsPrefix out.written out.written' (encode_utf8_all text))
  pub stopped : IfErr ended (StopsPrinting out)
  pub counted : out.faults ≤ out.faults'

-- what the typing of lines makes of what is typed so far, by how it ends: what they come to was said, and printed
-- behind the page, or the first of it
abbrev pub TypesThrough : List Rule → List Line → Ended → Stand → Stand → MovedSink → Type 0
TypesThrough rules lines ended before after out =
    RunsThrough (typing rules) lines ended before.sessions after.sessions before.said after.said
    (λ text. PrintsPage (before.page ++ text) after.page ended out)

-- what the typing of a script's lines by some rules leaves in a sink and with a caller, by how it ends
abbrev pub TypesOut : List Rule → List Line → Ended → Dialog → Dialog → MovedSink → Type 0
TypesOut rules lines ended said said' out =
    Runs (λ (all : Unit {0}). typing rules [] lines) (at_if_done ended (λ all. ends tt)) said said'
    (λ text. LeavesPrinted (encode_utf8_all text) ended out)
