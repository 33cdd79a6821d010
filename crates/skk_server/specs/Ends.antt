-- What the serving of a connection leaves, by its end.
use Rattle.std.specs.Prelude.{◌≡◌, ◌⊎◌, ◌≤◌, ◌++◌, ℕ, List, length}
use Rattle.std.specs.Io.KnownBytes.{Appends, Consumes, IsAtEnd}
use Rattle.romaji_rules.specs.declared.rule.Rule.{Rule}
use Rattle.skk_outside.specs.declared.outside.Outside.{Ghosts as OutsideGhosts}
use Rattle.skk_outside.specs.Faults.{Rose}
use Rattle.skk_outside.specs.Moved.{Told}
use Rattle.skk_outside.specs.Written.{IsPrefix}
use Rattle.skk_calls.specs.Interactions.{ends, Dialog, Leads}
use Rattle.skk_server.specs.declared.end.End.{End}
use Rattle.skk_server.specs.declared.end.End.TheVariants.{Closed, LinkFault, Limit, Memory}
use Rattle.skk_server.specs.Connections.{Stand, more, over, Exchange, Means}

-- the most bytes of a connection
abbrev pub most_bytes : ℕ
most_bytes = 4294967296

-- the most bytes that are read at once
abbrev pub longest_piece : ℕ
longest_piece = 4096

-- a link before and after: what it had left and has left, what it was written before and by now, and its counts of
-- faults
pub record MovedLink : Type 0 where
  pub left : Told
  pub left' : Told
  pub written : Told
  pub written' : Told
  pub faults : ℕ
  pub faults' : ℕ

-- a link by its meanings, before and after
abbrev pub moved_link : {L : Type 0} → OutsideGhosts L → L → L → MovedLink
moved_link links old new = record {
  left = links.left old;
  left' = links.left new;
  written = links.written old;
  written' = links.written new;
  faults = links.faults old;
  faults' = links.faults new;
}

-- all that bytes ask was asked, with all that is sent for it, and the connection then stands so
abbrev pub AnswersAll : List Rule → List ℕ → Dialog → List ℕ → Stand → Type 0
AnswersAll rules bytes dialog sent stand =
    (exchange : Exchange) × Means rules bytes exchange × Leads exchange dialog sent (ends stand)

-- the first of what a front of bytes asks was asked, and the first bytes sent for it; and so it is for all the bytes
pub record AnswersSome (rules : List Rule) (bytes : List ℕ) (dialog : Dialog) (sent : List ℕ) : Type 0 where
  pub front : List ℕ
  pub rest : List ℕ
  pub bytes_are : bytes ≡ front ++ rest
  pub exchange : Exchange
  pub means : Means rules front exchange
  pub replies : List ℕ
  pub to : Exchange
  pub led : Leads exchange dialog replies to
  pub begun : IsPrefix sent replies
  pub first_of_all : (whole : Exchange) → Means rules bytes whole
      → (behind : Exchange) × Leads whole dialog replies behind

-- bytes but for the last that were read at once were answered, behind which the connection goes on
pub record AnswersFront (rules : List Rule) (bytes : List ℕ) (dialog : Dialog) (sent : List ℕ) : Type 0 where
  pub front : List ℕ
  pub rest : List ℕ
  pub bytes_are : bytes ≡ front ++ rest
  pub few : length rest ≤ longest_piece
  pub asked : Dialog
  pub asked_then : Dialog
  pub dialog_is : dialog ≡ asked ++ asked_then
  pub replies : List ℕ
  pub replies_then : List ℕ
  pub sent_is : sent ≡ replies ++ replies_then
  pub answers : AnswersAll rules front asked replies more

-- how far a connection was served, by its end
abbrev pub EndsBy : List Rule → MovedLink → List ℕ → Dialog → List ℕ → End → Type 0
EndsBy rules link bytes dialog sent Closed =
    AnswersAll rules bytes dialog sent over ⊎ (AnswersAll rules bytes dialog sent more × IsAtEnd link.left')
EndsBy rules link bytes dialog sent LinkFault =
    AnswersSome rules bytes dialog sent × AnswersFront rules bytes dialog sent × Rose link.faults link.faults'
EndsBy rules link bytes dialog sent Limit = AnswersAll rules bytes dialog sent more × (length bytes ≡ most_bytes)
EndsBy rules link bytes dialog sent Memory = AnswersSome rules bytes dialog sent

-- a connection was served up to its end: which bytes were read, what the caller was asked, and which bytes were sent
pub record Serves (rules : List Rule) (link : MovedLink) (said said' : Dialog) (end : End) : Type 0 where
  pub bytes : List ℕ
  pub dialog : Dialog
  pub sent : List ℕ
  pub takes : Consumes link.left link.left' bytes
  pub few : length bytes ≤ most_bytes
  pub says : said' ≡ said ++ dialog
  pub writes : Appends link.written link.written' sent
  pub ends_so : EndsBy rules link bytes dialog sent end
