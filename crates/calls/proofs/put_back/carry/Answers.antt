-- The view's standings come to place 128, the master's to 256, and their first clash decides.
use Rattle.std.proofs.Common.{refl}
use Rattle.calls.proofs.Grounded.{program_ready}
use Rattle.calls.proofs.Carrying.{put_space, seen, standings_put}
use Rattle.calls.proofs.put_back.carry.Goals as goal

pub put-requires-clause-ready_at : goal.put-requires-clause-ready_at
put-requires-clause-ready_at c = rw c.root.ensures (program_ready c.requires.runnable)

pub put-requires-clause-put_space_at : goal.put-requires-clause-put_space_at
put-requires-clause-put_space_at c = rw (c.root.ensures, c.len-count.ensures, c.len.ensures) (put_space c.requires c.bring_view.ensures _ refl)

pub put-requires-clause-seen_at : goal.put-requires-clause-seen_at
put-requires-clause-seen_at c = rw (c.root.ensures, c.len-count.ensures, c.len.ensures) (seen c.requires c.bring_view.ensures)

pub write_master-requires : goal.write_master-requires
write_master-requires c =
    let put = rw (c.root.ensures, c.len-count.ensures, c.len.ensures) at c.put.ensures in
    let stood = standings_put c.requires c.bring_view.ensures put c.put.auto.work in
    (stood.searched _ c.len-count.ensures _ c.first_clash.ensures).room c.in_default.is

pub returns-in-Some : goal.returns-in-Some
returns-in-Some c =
    let put = rw (c.root.ensures, c.len-count.ensures, c.len.ensures) at c.put.ensures in
    let stood = standings_put c.requires c.bring_view.ensures put c.put.auto.work in
    (stood.searched _ c.len-count.ensures _ c.first_clash.ensures).refuses _ c.in-Some.is

pub returns : goal.returns
returns c =
    let put = rw (c.root.ensures, c.len-count.ensures, c.len.ensures) at c.put.ensures in
    let stood = standings_put c.requires c.bring_view.ensures put c.put.auto.work in
    (stood.searched _ c.len-count.ensures _ c.first_clash.ensures).settles c.in_default.is _ _ c.write_master.ensures
