use Rattle.eds_fits.proofs.Fitted.{component-fits}
use Rattle.eds_fits.proofs.Values.{passed}
use Rattle.eds_fits.proofs.plan.component_fits.Goals as goal

pub returns-clause-fits : goal.returns-clause-fits
returns-clause-fits c = passed c.fits_by.result _ (component-fits c.args.table.now c.keeps_rules.ensures c.args.component.now _) c.fits_by.ensures
