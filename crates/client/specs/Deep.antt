-- What a quota over a partition of two tables means.
use Rattle.store.specs.Meaning.{View}
use Rattle.table.specs.declared.Table.{Table}
use Rattle.table.specs.Means.{table_view}
use Rattle.partition.specs.declared.Partition.{Partition}
use Rattle.partition.specs.Sides.{partition_view}
use Rattle.quota.specs.declared.Quota.{Quota}
use Rattle.quota.specs.Limit.{quota_view}

abbrev pub deep_view : Quota (Partition Table Table) → View
deep_view q = quota_view (partition_view table_view table_view) q
