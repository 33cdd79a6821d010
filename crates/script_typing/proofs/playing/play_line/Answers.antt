use Rattle.std.proofs.Common.{◌≡◌, ◌∙◌, ap₂, arith, unwrap_or}
use Rattle.std.proofs.lemmas.Grind.{common_steps}
use Rattle.std.specs.BTreeMap.Entry.{map_with_value}
use Rattle.script_typing.specs.LineLaws.{lost-line}
use Rattle.script_typing.specs.Sessions.{session_or_new, with_session}
use Rattle.script_typing.proofs.playing.play_line.Goals as goal

pub returns-in_err-sessions : goal.returns-in_err-sessions
returns-in_err-sessions g c =
    lost-line c.args.rules.now c.args.line.now c.from_residual.result _ _ _ _ c.from_residual.ensures.1

pub returns : goal.returns
returns g c =
    let entry = c.in_ok-sessions.ensures in
    let session = c.play_in_session.new.session in
    let there : c.or_insert-session.result.now
    ≡ session_or_new c.args.sessions.now.entries c.session-number.result =
    c.or_insert-session.ensures.value ∙ ap₂ unwrap_or entry.value c.new_session.ensures in
    let put : (map_with_value c.in_ok-sessions.field-0 session).entries
    ≡ with_session c.args.sessions.now.entries c.session-number.result session = entry.update.1 session in
    record {
      session = session;
      says = rw (there, c.session-number.ensures) at c.play_in_session.ensures;
      put = grind (arith, common_steps, put, entry.same_map, c.session-number.ensures);
    }
