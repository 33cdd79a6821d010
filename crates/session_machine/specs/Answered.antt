-- What the answers of a dictionary tell a typist, and what was learnt by them.
use Rattle.std.specs.Prelude.{Bool, true, false, Option, None, Some}
use Rattle.skk_calls.specs.declared.answer.Answer.{Answer}
use Rattle.skk_calls.specs.declared.answer.Answer.TheVariants.{Done, Refused}
use Rattle.skk_calls.specs.declared.answer.Reply.{Reply}
use Rattle.skk_calls.specs.declared.answer.Reply.TheVariants as replies
use Rattle.skk_calls.specs.Rows.{Learned}
use Rattle.session_machine.specs.Session.{no_notice}
use Rattle.session_machine.specs.declared.session_notice.SessionNotice.{SessionNotice}
use Rattle.session_machine.specs.declared.session_notice.SessionNotice.TheVariants as told

-- what a reply tells: nothing where something was found or learnt, or a list of books was given
abbrev pub reply_notice : Reply → SessionNotice
reply_notice (replies.Found cands) = no_notice
reply_notice (replies.Readings readings) = no_notice
reply_notice (replies.Learned learned) = no_notice
reply_notice replies.Purged = told.Purged
reply_notice replies.Annotated = told.Annotated
reply_notice replies.Shared = no_notice
reply_notice replies.Unchanged = told.Unchanged
reply_notice replies.Restored = told.Undone
reply_notice (replies.Overtaken stamp) = told.Overtaken stamp
reply_notice (replies.TooBig length) = told.TooBig length
reply_notice replies.StampsEnd = told.StampsEnd

-- what an answer tells
abbrev pub answer_notice : Answer → SessionNotice
answer_notice (Done reply) = reply_notice reply
answer_notice (Refused refusal) = told.Refused refusal

-- what an answer says was learnt
abbrev pub learnt_by : Answer → Option Learned
learnt_by (Done (replies.Learned learned)) = Some learned
learnt_by answer = None

-- an answer says that a word is found no more: it was purged, or there was nothing to purge
abbrev pub says_purged : Answer → Bool
says_purged (Done replies.Purged) = true
says_purged (Done replies.Unchanged) = true
says_purged answer = false

-- an answer says that a candidate has a note: it was annotated, or it had that note
abbrev pub says_annotated : Answer → Bool
says_annotated (Done replies.Annotated) = true
says_annotated (Done replies.Unchanged) = true
says_annotated answer = false
