-- `command::perform` meets its contract: the step of a command is what its function is defined to do.
use Rattle.model.specs.Format.{format}
use Rattle.model.specs.Write.{write}
use Rattle.model.specs.Commit.{close, store_next}
use Rattle.model.specs.Checkpoint.{checkpoint, retire}
use Rattle.model.specs.Recovery.{cut, recover}
use Rattle.model.specs.Step.{step_by, conditions_of, done_by}
use Rattle.operands.specs.declared.decoding.Command.TheVariants.{Format, Write, Close, Store, Checkpoint, Cut, Recover, Retire}
use Rattle.command.proofs.TapeLaws.{done_as, write_done}
use Rattle.command.proofs.perform.Goals as goal

pub returns-in-Format : goal.returns-in-Format
unfolding step_by conditions_of done_by format
returns-in-Format c = done_as _ _ _ _ _ _ _ (Format c.in-Format.cores c.in-Format.blocks c.in-Format.journal) _ c.format.ensures c.in-Format.is

pub returns-in-Write : goal.returns-in-Write
unfolding step_by conditions_of done_by write
returns-in-Write c = done_as _ _ _ _ _ _ _ (Write c.in-Write.task c.in-Write.core c.in-Write.block c.in-Write.offset c.in-Write.bytes) _ (write_done _ _ _ _ _ _ _ c.in-Write.task _ _ _ _ _ c.block_limit.ensures c.write.ensures) c.in-Write.is

pub returns-in-Close : goal.returns-in-Close
unfolding step_by conditions_of done_by close
returns-in-Close c = done_as _ _ _ _ _ _ _ (Close c.in-Close.core) _ c.close.ensures c.in-Close.is

pub returns-in-Store : goal.returns-in-Store
unfolding step_by conditions_of done_by store_next
returns-in-Store c = done_as _ _ _ _ _ _ _ (Store c.in-Store.core) _ c.store.ensures c.in-Store.is

pub returns-in-Checkpoint : goal.returns-in-Checkpoint
unfolding step_by conditions_of done_by checkpoint
returns-in-Checkpoint c = done_as _ _ _ _ _ _ _ (Checkpoint c.in-Checkpoint.core) _ c.checkpoint.ensures c.in-Checkpoint.is

pub returns-in-Cut : goal.returns-in-Cut
unfolding step_by conditions_of done_by cut
returns-in-Cut c = done_as _ _ _ _ _ _ _ Cut _ c.cut.ensures c.in-Cut.is

pub returns-in-Recover : goal.returns-in-Recover
unfolding step_by conditions_of done_by recover
returns-in-Recover c = done_as _ _ _ _ _ _ _ Recover _ c.recover.ensures c.in-Recover.is

pub returns-in-Retire : goal.returns-in-Retire
unfolding step_by conditions_of done_by retire
returns-in-Retire c = done_as _ _ _ _ _ _ _ (Retire c.in-Retire.core) _ c.retire.ensures c.in-Retire.is
