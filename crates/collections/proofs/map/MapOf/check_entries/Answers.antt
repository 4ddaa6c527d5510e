use Rattle.std.proofs.Common.{◌≡◌, rules}
use Rattle.std.specs.Prelude.{IsErr, IsErrAnd}
use Rattle.std.specs.Result.{result_from_control_flow}
use Rattle.collections.specs.Maps.{entry_one}
use Rattle.collections.proofs.Judges.{judges, stopped}
use Rattle.collections.proofs.Yielded.{entries_yield}
use Rattle.collections.proofs.map.MapOf.check_entries.Goals as goal

pub returns : goal.returns
returns g c =
    judges (entries_yield (record { rest = c.args.items })) _ _ _ c.try_for_each.result (λ w s. w ≡ result_from_control_flow s) (λ e w. IsErr w × IsErrAnd w (λ f. f ≡ e.0)) c.try_for_each.ensures.ran
    (entry_one (g.K.FromRedisValue.one c.args.self.now.0) (g.V.FromRedisValue.one c.args.self.now.1)) (λ x r q k. search rules) (λ w e. e) (λ w r e b s. stopped _ w r b s)
