use Rattle.std.proofs.Common.{◌≡◌, rules}
use Rattle.std.specs.Prelude.{IsErr, IsErrAnd}
use Rattle.std.specs.Result.{result_from_control_flow}
use Rattle.collections.proofs.Judges.{judges, stopped}
use Rattle.collections.proofs.Yielded.{replies_yield}
use Rattle.collections.proofs.set_steps.check_each.Goals as goal

pub returns : goal.returns
returns g c =
    judges (replies_yield c.args.items) _ _ _ c.try_for_each.result (λ w s. w ≡ result_from_control_flow s) (λ e w. IsErr w × IsErrAnd w (λ f. f ≡ e.0)) c.try_for_each.ensures.ran (g.K.FromRedisValue.one c.args.kind.now) (λ x r q k. search rules) (λ w e. e) (λ w r e b s. stopped _ w r b s)
