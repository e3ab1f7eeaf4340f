use Rattle.eds_trials.proofs.calls.activities.beat.Goals as goal

pub run_activity-requires-clause-fits : goal.run_activity-requires-clause-fits
run_activity-requires-clause-fits c = c.requires.fits.activities
