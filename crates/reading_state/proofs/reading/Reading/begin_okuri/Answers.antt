use Rattle.std.proofs.Common.{rules}
use Rattle.reading_state.proofs.Steps.{letter_read, okuri_begun}
use Rattle.reading_state.proofs.reading.Reading.begin_okuri.Goals as goal

pub returns-clause-ok : goal.returns-clause-ok
returns-clause-ok c =
    okuri_begun c.args.rules.now c.args.self.now _ c.self.view_is c.in_ok-flushed.flushed.text
    c.in_ok-flushed.flushed.notice c.in_ok-flushed.ensures.flush
    c.args.letter c.new-pending.result c.new.result c.push_str.new.self c.feed.new.pending
    c.accepted_by_okuri-kana.result.text c.in_ok-fed.fed c.feed.result c.accepted_by_okuri-kana.result.notice
    c.later_notice-2.result (search rules) c.new-pending.ensures c.feed.ensures.computed c.in_ok-fed.ensures
    c.new.ensures
    c.accepted_by_okuri-kana.ensures.notice c.accepted_by_okuri-kana.ensures.text (search rules)
    c.later_notice-2.ensures

pub returns-then-both_empty-clause-ok : goal.returns-then-both_empty-clause-ok
returns-then-both_empty-clause-ok c =
    letter_read c.args.rules.now c.args.self.now c.in_ok-flushed.flushed.text c.in_ok-flushed.flushed.notice
    c.in_ok-flushed.ensures.flush c.requires.none (search rules) c.args.letter c.new-pending.result
    c.feed.new.pending c.in_ok-fed.fed c.feed.result c.put.new.self c.in_ok-notice.notice c.later_notice.result
    c.new-pending.ensures c.feed.ensures.computed c.in_ok-fed.ensures (search rules) c.later_notice.ensures
