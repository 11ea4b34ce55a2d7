-- The count of those remaining falls with each call.
use Rattle.valid.proofs.shrinking.+shrink_set.Given as goal

abbrev pub decreases-shrink_set : goal.decreases-shrink_set
decreases-shrink_set l = l.before
