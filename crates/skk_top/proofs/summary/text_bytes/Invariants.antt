use Rattle.std.proofs.Common.{◌≡◌, ◌≤◌, ◌+◌, min}
use Rattle.std.specs.List.{sum_by}
use Rattle.skk_text.specs.Counts.{last_count}
use Rattle.skk_text.specs.Text.{byte_len}
use Rattle.session_machine.specs.Session.{text_of}
use Rattle.skk_top.specs.LoadCommand.{text_bytes}
use Rattle.skk_top.proofs.summary.text_bytes.Given as goal

-- the bytes so far and those of the sessions left are all
abbrev pub invariant-loop-number : goal.invariant-loop-number
invariant-loop-number l =
    (l.bytes ≤ last_count)
    × (min (l.bytes + sum_by (λ entry. byte_len (text_of entry.1)) l.number-iterator) last_count
    ≡ text_bytes l.sessions.entries)
