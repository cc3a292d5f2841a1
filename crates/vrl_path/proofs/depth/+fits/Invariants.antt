use Rattle.std.proofs.Common.{◌*◌, ◌+◌, length}
use Rattle.vrl_path.proofs.depth.+fits.Given as goal

abbrev pub decreases-fits_at : goal.decreases-fits_at
decreases-fits_at l = 3 * length l.steps.now

abbrev pub decreases-field_fits : goal.decreases-field_fits
decreases-field_fits l = 3 * length l.steps.now + 1

abbrev pub decreases-place_fits : goal.decreases-place_fits
decreases-place_fits l = 3 * length l.steps.now + 2

abbrev pub decreases-item_fits : goal.decreases-item_fits
decreases-item_fits l = 3 * length l.steps.now + 1
