-- Indexed sets may be sent to other threads, and be shared by them, where their items may.
use denote.RattleType.{RattleType}
use denote.Builtin.{unit}
use denote.Param.Send.{IsSend, IsSync, sendable}
use denote.Param.SendFields.{as_row_send, as_row_sync}
use Rattle.std.specs.contracts.alloc.Global as Heap
use Rattle.std.specs.contracts.hash.BuildHasherDefault as Default
use Rattle.std.specs.contracts.hash.FoldHasher as Hasher
use Rattle.std.specs.contracts.impls.GlobalAllocator.TheImpl.{ghosts}
use Rattle.std.specs.declared.cmp.PartialEq as eq
use Rattle.std.specs.declared.hash.BuildHasher as builder
use Rattle.std.specs.declared.hash.Hash as hash
use Rattle.std.specs.declared.hash.Hasher as hasher
use Rattle.std.proofs.Crossing.{Vec-send, Vec-sync}
use Rattle.indexmap.specs.contracts.columns.Columns as Columns
use Rattle.indexmap.specs.contracts.index_table.Bucket as Bucket
use Rattle.indexmap.specs.contracts.index_table.IndexTable as IndexTable
use Rattle.indexmap.specs.contracts.index_table.group.Group as Group
use Rattle.indexmap.specs.contracts.map.IndexMap as IndexMap
use Rattle.indexmap.specs.contracts.set.IndexSet as IndexSet

-- what makes the hashers of a set for which none is named
abbrev Maker : RattleType
Maker = Default.the_row Hasher.the_row

table_send : IsSend (IndexTable.the_field Heap.the_row ghosts).row
table_send =
    let g = Vec-send Group.the_row (as_row_send Group.the_field (search sendable depth 20)) in
    let b = Vec-send Bucket.the_row (as_row_send Bucket.the_field (search sendable depth 20)) in
    search sendable depth 20

maker_send : IsSend Maker
maker_send = search sendable depth 20

module _ (K V : RattleType) where
  columns_send : IsSend K → IsSend V → IsSend (Columns.the_field K V Heap.the_row ghosts).row
  columns_send k v =
      let a = Vec-send K k in
      let b = Vec-send V v in
      search sendable depth 20

module _ (T S H : RattleType) (e : eq.Ghosts T.Denot) (h : hash.Ghosts T.Denot) (b : builder.Ghosts S.Denot H.Denot)
    (w : hasher.Ghosts H.Denot) where
  map_send : IsSend T → IsSend S → IsSend (IndexMap.the_field T unit S Heap.the_row H e h b w ghosts).row
  map_send t s =
      let c = columns_send T unit t (search sendable) in
      let d = table_send in
      search sendable depth 20

  pub any_set_send : IsSend T → IsSend S → IsSend (IndexSet.the_field T S Heap.the_row H e h b w ghosts).row
  any_set_send t s = let m = map_send t s in search sendable depth 20

module _ (T : RattleType) (e : eq.Ghosts T.Denot) (h : hash.Ghosts T.Denot)
    (b : builder.Ghosts Maker.Denot (Hasher.the_row).Denot) (w : hasher.Ghosts (Hasher.the_row).Denot) where
  pub set_send : IsSend T → IsSend (IndexSet.the_field T Maker Heap.the_row Hasher.the_row e h b w ghosts).row
  set_send t = any_set_send T Maker Hasher.the_row e h b w t maker_send

table_sync : IsSync (IndexTable.the_field Heap.the_row ghosts).row
table_sync =
    let g = Vec-sync Group.the_row (as_row_sync Group.the_field (search sendable depth 20)) in
    let b = Vec-sync Bucket.the_row (as_row_sync Bucket.the_field (search sendable depth 20)) in
    search sendable depth 20

maker_sync : IsSync Maker
maker_sync = search sendable depth 20

module _ (K V : RattleType) where
  columns_sync : IsSync K → IsSync V → IsSync (Columns.the_field K V Heap.the_row ghosts).row
  columns_sync k v =
      let a = Vec-sync K k in
      let b = Vec-sync V v in
      search sendable depth 20

module _ (T S H : RattleType) (e : eq.Ghosts T.Denot) (h : hash.Ghosts T.Denot) (b : builder.Ghosts S.Denot H.Denot)
    (w : hasher.Ghosts H.Denot) where
  map_sync : IsSync T → IsSync S → IsSync (IndexMap.the_field T unit S Heap.the_row H e h b w ghosts).row
  map_sync t s =
      let c = columns_sync T unit t (search sendable) in
      let d = table_sync in
      search sendable depth 20

  pub any_set_sync : IsSync T → IsSync S → IsSync (IndexSet.the_field T S Heap.the_row H e h b w ghosts).row
  any_set_sync t s = let m = map_sync t s in search sendable depth 20

module _ (T : RattleType) (e : eq.Ghosts T.Denot) (h : hash.Ghosts T.Denot)
    (b : builder.Ghosts Maker.Denot (Hasher.the_row).Denot) (w : hasher.Ghosts (Hasher.the_row).Denot) where
  pub set_sync : IsSync T → IsSync (IndexSet.the_field T Maker Heap.the_row Hasher.the_row e h b w ghosts).row
  set_sync t = any_set_sync T Maker Hasher.the_row e h b w t maker_sync
