pub mod NeedViews
