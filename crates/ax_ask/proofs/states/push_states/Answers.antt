use Rattle.ax_ask.proofs.Joined.{one_more}
use Rattle.ax_ask.proofs.states.push_states.Goals as goal

pub returns : goal.returns
returns c =
    let e2 = one_more _ _ _ _ _ c.in_ok-push_where_holds.ensures c.in_ok-push_where_holds-2.ensures in
    let e3 = one_more _ _ _ _ _ e2 c.in_ok-push_where_checked.ensures in
    let e4 = one_more _ _ _ _ _ e3 c.in_ok-push_where_told.ensures in
    let e5 = one_more _ _ _ _ _ e4 c.in_ok-push_where_told-2.ensures in
    let e6 = one_more _ _ _ _ _ e5 c.in_ok-push_where_checked-2.ensures in
    let e7 = one_more _ _ _ _ _ e6 c.in_ok-push_where_holds-3.ensures in
    let e8 = one_more _ _ _ _ _ e7 c.in_ok-push_where_holds-4.ensures in
    let e9 = one_more _ _ _ _ _ e8 c.in_ok-push_where_holds-5.ensures in
    one_more _ _ _ _ _ e9 c.in_ok-push_where_holds-6.ensures
