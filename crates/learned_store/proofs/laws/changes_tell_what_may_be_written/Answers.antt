use Rattle.learned_store.proofs.SoundChanges.{put_sound, drop_sound, list_sound, note_sound, form_follows}
use Rattle.learned_store.proofs.SoundChanges.{change_later}
use Rattle.learned_store.proofs.laws.changes_tell_what_may_be_written.Goals as goal

pub returns-clause-put : goal.returns-clause-put
returns-clause-put c state call book count row valid is fit moved told =
    put_sound state call book count row valid is
    (c.changes_keep_states_valid.ensures state call valid is fit) moved told

pub returns-clause-drop : goal.returns-clause-drop
returns-clause-drop c = drop_sound

pub returns-clause-note : goal.returns-clause-note
returns-clause-note c = note_sound

pub returns-clause-list : goal.returns-clause-list
returns-clause-list c = list_sound

pub returns-clause-follows : goal.returns-clause-follows
returns-clause-follows c state call form valid is fit moved told =
    form_follows state call form valid is (c.changes_keep_states_valid.ensures state call valid is fit) moved told

pub returns-clause-count : goal.returns-clause-count
returns-clause-count c = change_later
