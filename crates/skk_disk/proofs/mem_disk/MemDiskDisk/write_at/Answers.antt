use Rattle.skk_disk.proofs.CallSteps.{write_images, write_partly, write_past, write_is}
use Rattle.skk_disk.proofs.mem_disk.MemDiskDisk.write_at.Goals as goal

pub returns-clause-written : goal.returns-clause-written
returns-clause-written c =
    write_is c.make_write.result c.args.file c.args.at c.args.from.now c.args.self.now c.make_write.new.self
    c.make_write.ensures.ok

pub returns-clause-partly : goal.returns-clause-partly
returns-clause-partly c = λ told.
    write_partly c.make_write.result c.args.file c.args.at c.args.from.now c.args.self.now c.make_write.new.self
    c.make_write.ensures.ok c.make_write.ensures.err

pub returns-clause-images : goal.returns-clause-images
returns-clause-images c =
    write_images c.make_write.result c.args.file c.args.at c.args.from.now c.args.self.now c.make_write.new.self
    c.make_write.ensures.ok c.make_write.ensures.err

pub returns-clause-past : goal.returns-clause-past
returns-clause-past c =
    write_past c.make_write.result c.args.file c.args.at c.args.from.now c.args.self.now c.make_write.new.self
    c.make_write.ensures.ok c.make_write.ensures.err
