use Rattle.std.specs.Prelude.{None}
use Rattle.member_write_behind.proofs.Tellings.{stored, store_caused, loaded_same, cleared, joins_untold}
use Rattle.member_write_behind.proofs.write_behind.WriteBehindKeeper.TheImpl.Goals as goal

pub store-tells : goal.store-tells
store-tells g c =
    record {
      table = stored g.D.Keeper c.args.self.now c.new.self.now c.args.entries.now c.result c.ensures.table c.ensures.gathers;
      answers = joins_untold None c.result;
      cause = store_caused g.D.Keeper c.args.self.now c.new.self.now c.args.entries.now c.result c.ensures.gathers;
    }

pub load-tells : goal.load-tells
load-tells g c =
    record {
      loaded = c.ensures.gathers.loaded;
      table = loaded_same g.D.Keeper c.args.self.now c.new.self.now (λ loaded. loaded.items) c.result c.ensures.gathers;
      answers = joins_untold None c.result;
      cause = c.ensures.gathers.cause;
    }

pub clear-tells : goal.clear-tells
clear-tells g c =
    record {
      table = cleared g.D.Keeper c.args.self.now c.new.self.now c.result c.ensures.gathers;
      answers = joins_untold None c.result;
      cause = c.ensures.gathers.cause;
    }
