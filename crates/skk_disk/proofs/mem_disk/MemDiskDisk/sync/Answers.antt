use Rattle.skk_disk.proofs.CallSteps.{sync_past, sync_images, sync_is, sync_durable}
use Rattle.skk_disk.proofs.mem_disk.MemDiskDisk.sync.Goals as goal

pub returns-clause-durable : goal.returns-clause-durable
returns-clause-durable c =
    sync_durable c.make_sync.result c.args.file c.args.self.now c.make_sync.new.self c.make_sync.ensures.ok

pub returns-clause-seen : goal.returns-clause-seen
returns-clause-seen c =
    sync_is c.make_sync.result c.args.file c.args.self.now c.make_sync.new.self c.make_sync.ensures.ok

pub returns-clause-images : goal.returns-clause-images
returns-clause-images c =
    sync_images c.make_sync.result c.args.file c.args.self.now c.make_sync.new.self c.make_sync.ensures.ok
    c.make_sync.ensures.err

pub returns-clause-past : goal.returns-clause-past
returns-clause-past c =
    sync_past c.make_sync.result c.args.file c.args.self.now c.make_sync.new.self c.make_sync.ensures.ok
    c.make_sync.ensures.err
