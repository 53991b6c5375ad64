use Rattle.std.proofs.Common.{ap, []}
use Rattle.std.specs.Prelude.{Some, None}
use Rattle.member_keeper.specs.Tables.{put_all}
use Rattle.member_keeper.proofs.Tellings.{changes_of, joins_untold, gives_of}
use Rattle.member_sqlite.proofs.store_keeper.StoreKeeperKeeper.TheImpl.Goals as goal

pub store-tells : goal.store-tells
store-tells g c =
    record {
      table = changes_of c.args.self.now.table.entries c.new.self.now.table.entries (λ t. put_all t c.args.entries.now) c.result c.ensures.ok c.ensures.err;
      answers = joins_untold None c.result;
      cause = c.ensures.cause;
    }

pub load-tells : goal.load-tells
load-tells g c =
    record {
      loaded = gives_of c.args.self.now.table.entries (λ loaded. loaded.items) c.result c.ensures.loaded c.ensures.in_order;
      table = ap Some c.ensures.table;
      answers = joins_untold None c.result;
      cause = c.ensures.cause;
    }

pub clear-tells : goal.clear-tells
clear-tells g c =
    record {
      table = changes_of c.args.self.now.table.entries c.new.self.now.table.entries (λ _. []) c.result c.ensures.ok c.ensures.err;
      answers = joins_untold None c.result;
      cause = c.ensures.cause;
    }
