-- `tape::input::Unrun::pass` meets its contract: the bytes behind the first n.
use Rattle.tape.proofs.TapeLaws.{passed_over}
use Rattle.tape.proofs.input.Unrun.pass.Goals as goal

pub returns : goal.returns
returns c = passed_over _ _ _ _ _ c.self.view_is c.self.invariant.0 c.requires
