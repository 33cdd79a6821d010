-- What each image that a stop now may leave is opened with, while a journal is open.
use Rattle.skk_disk.specs.declared.disk.Disk.{Ghosts}
use Rattle.skk_journal.specs.Contents.{Contents}
use Rattle.skk_journal.specs.Images.{Each, Opens, OpensEither}
use Rattle.skk_journal.specs.Journal.{OpenJournal, Rests, Doubts}
use Rattle.skk_journal.specs.SideLaws.{holds_opens, doubt_opens}

module _ {D : Type 0} (disk : Ghosts D) (journal : OpenJournal D) where
  -- with its contents, where nothing is in doubt
  pub rests_open : (contents : Contents) → Rests disk journal contents
      → Each (disk.left_since journal.disk (disk.time journal.disk)) (Opens journal.newest contents)
  rests_open contents rests image left =
      holds_opens journal.newest journal.live journal.idle contents image (rests.images image left)

  -- with its contents or the others, where others may count
  pub doubts_open : (contents others : Contents) → Doubts disk journal contents others
      → Each (disk.left_since journal.disk (disk.time journal.disk)) (OpensEither journal.newest contents others)
  doubts_open contents others in_doubt image left =
      doubt_opens journal.newest journal.live journal.idle journal.doubt contents others image
      (in_doubt.images image left)
